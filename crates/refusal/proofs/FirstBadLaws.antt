-- The first of many that is refused: step by step, and exactly when.
use mathlib.Core.Path.{◌≡◌, refl, sym, ap, ◌∙◌}
use mathlib.Core.Logic.{◌↔◌, ◌⊎◌, inl, inr, ⊎_elim}
use mathlib.Core.Bool.{Bool, true, false, cond}
use Prim.Native.Nat.{ℕ, zero, suc, ◌+◌, ◌≤◌, ◌<◌}
use native.Mathlib.Omega.{arith}
use borrow.Author.Tests.{eq-eqb, ne_eqb, eqb-true, eqb-false}
use lib.Dec.{eqb}
use Rattle.refusal.specs.FirstBad.{first_bad, FirstAt}

at-or-past : (k i : ℕ) → k ≤ i → (i ≡ k) ⊎ (k + 1 ≤ i)
at-or-past k i l = go (eqb i k) refl
  where
    go : (t : Bool) → eqb i k ≡ t → (i ≡ k) ⊎ (k + 1 ≤ i)
    go true e = inl (eqb-true i k e)
    go false e = inr (omega (arith, eqb-false i k e))

module _ (f : ℕ → ℕ) where
  pub bad-end : (k n : ℕ) → n ≡ 0 → (0, k) ≡ first_bad f k n
  unfolding first_bad
  bad-end k n e = rw e

  pub bad-on : (k n m : ℕ) → n ≡ suc m → f k ≡ 0 → first_bad f k n ≡ first_bad f (k + 1) m
  unfolding first_bad
  bad-on k n m e h = rw (e, eq-eqb (f k) 0 h)

  pub bad-here : (k n m x : ℕ) → n ≡ suc m → x ≡ f k → (x ≡ 0 → ⊥) → (x, k) ≡ first_bad f k n
  unfolding first_bad
  bad-here k n m x e p h = rw (e, p, ne_eqb (f k) 0 (λ q. h (p ∙ q)))

  -- a limit of every number is a limit of the one given
  pub bad-below : (b k n : ℕ) → 0 < b → ((i : ℕ) → f i < b) → (first_bad f k n).0 < b
  unfolding first_bad
  bad-below b k zero z h = z
  bad-below b k (suc n) z h = go (eqb (f k) 0) (bad-below b (k + 1) n z h)
    where
      go : (t : Bool) → (first_bad f (k + 1) n).0 < b → (cond t (first_bad f (k + 1) n) (f k, k)).0 < b
      go true l = l
      go false l = h k

  -- ---- exactly when

  -- one thing more in front, whose number is 0
  earlier : {k n x p : ℕ} → f k ≡ 0 → FirstAt f (k + 1) n x p → FirstAt f k (suc n) x p
  earlier {k} {n} {x} {p} z a =
      record {
        from = omega (arith, a.from);
        inside = omega (arith, a.inside);
        is = a.is;
        before = λ i l m. none i l m;
      }
    where
      none : (i : ℕ) → k ≤ i → i < p → f i ≡ 0
      none i l m = ⊎_elim (λ e. ap f e ∙ z) (λ h. a.before i h m) (at-or-past k i l)

  found : (k n x p : ℕ) → 0 < x → first_bad f k n ≡ (x, p) → FirstAt f k n x p
  unfolding first_bad
  found k zero x p h e = absurd (omega (arith, ap (λ (r : ℕ × ℕ). r.0) e))
  found k (suc n) x p h e = go (eqb (f k) 0) refl e (found (k + 1) n x p h)
    where
      go : (t : Bool) → eqb (f k) 0 ≡ t → cond t (first_bad f (k + 1) n) (f k, k) ≡ (x, p) → (first_bad f (k + 1) n ≡ (x, p) → FirstAt f (k + 1) n x p) → FirstAt f k (suc n) x p
      go true z q r = earlier (eqb-true (f k) 0 z) (r q)
      go false z q r =
          let g : k ≡ p = ap (λ (s : ℕ × ℕ). s.1) q in
          record {
            from = omega arith;
            inside = omega arith;
            is = sym (ap f g) ∙ ap (λ (s : ℕ × ℕ). s.0) q;
            before = λ i l m. absurd (omega arith);
          }

  later : {k n x p : ℕ} → k < p → FirstAt f k (suc n) x p → FirstAt f (k + 1) n x p
  later {k} {n} {x} {p} h a =
      record { from = omega arith; inside = omega (arith, a.inside); is = a.is; before = λ i l m. a.before i (omega arith) m }

  given : (k n x p : ℕ) → 0 < x → FirstAt f k n x p → first_bad f k n ≡ (x, p)
  given k zero x p h a = absurd (omega (arith, a.from, a.inside))
  given k (suc n) x p h a = go (eqb k p) refl (given (k + 1) n x p h)
    where
      go : (t : Bool) → eqb k p ≡ t → (FirstAt f (k + 1) n x p → first_bad f (k + 1) n ≡ (x, p)) → first_bad f k (suc n) ≡ (x, p)
      go true e r =
          let g : k ≡ p = eqb-true k p e in
          sym (bad-here k (suc n) n x refl (sym a.is ∙ ap f (sym g)) (λ z. omega arith)) ∙ ap (λ (i : ℕ). (x, i)) g
      go false e r =
          let l : k < p = omega (arith, eqb-false k p e, a.from) in
          bad-on k (suc n) n refl (a.before k (omega arith) l) ∙ r (later l a)

  -- a number is given with a place exactly when that place is the first whose number is not 0
  pub exactly-first : (k n x p : ℕ) → 0 < x → (first_bad f k n ≡ (x, p)) ↔ FirstAt f k n x p
  exactly-first k n x p h = (found k n x p h, given k n x p h)

  -- 0 is given, with the place past the last, exactly when every number is 0
  none-bad : (k n : ℕ) → ((i : ℕ) → k ≤ i → i < k + n → f i ≡ 0) → first_bad f k n ≡ (0, k + n)
  none-bad k zero h = sym (bad-end k zero refl) ∙ ap (λ (i : ℕ). (0, i)) (omega arith)
  none-bad k (suc n) h =
      bad-on k (suc n) n refl (h k (omega arith) (omega arith))
      ∙ none-bad (k + 1) n (λ i l m. h i (omega arith) (omega arith))
      ∙ ap (λ (i : ℕ). (0, i)) (omega arith)

  all-good : (k n : ℕ) → (first_bad f k n).0 ≡ 0 → (i : ℕ) → k ≤ i → i < k + n → f i ≡ 0
  unfolding first_bad
  all-good k zero e i l m = absurd (omega arith)
  all-good k (suc n) e i l m = go (eqb (f k) 0) refl e (all-good (k + 1) n)
    where
      go : (t : Bool) → eqb (f k) 0 ≡ t → (cond t (first_bad f (k + 1) n) (f k, k)).0 ≡ 0 → ((first_bad f (k + 1) n).0 ≡ 0 → (i : ℕ) → k + 1 ≤ i → i < k + 1 + n → f i ≡ 0) → f i ≡ 0
      go true z q r = at (eqb i k) refl
        where
          at : (t : Bool) → eqb i k ≡ t → f i ≡ 0
          at true s = ap f (eqb-true i k s) ∙ eqb-true (f k) 0 z
          at false s = r q i (omega (arith, eqb-false i k s)) (omega arith)
      go false z q r = absurd (eqb-false (f k) 0 z q)

  pub exactly-none : (k n : ℕ) → ((first_bad f k n).0 ≡ 0) ↔ ((i : ℕ) → k ≤ i → i < k + n → f i ≡ 0)
  exactly-none k n = (all-good k n, λ h. ap (λ (r : ℕ × ℕ). r.0) (none-bad k n h))

  pub none-place : (k n : ℕ) → (first_bad f k n).0 ≡ 0 → first_bad f k n ≡ (0, k + n)
  none-place k n e = none-bad k n (all-good k n e)

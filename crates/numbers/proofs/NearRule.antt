-- What `near` is, from its definition: off by at most a half, and even where it is off by exactly a half; and that no other number is so. The rule for
-- exact halves stands in the definitions, in the code and in this file, and nowhere else.
use mathlib.Core.Path.{◌≡◌, refl, ap, ◌∙◌, subst⁻¹}
use mathlib.Core.Logic.{⊎_elim}
use mathlib.Core.Bool.{Bool, true, false, cond}
use Prim.Native.Nat.{ℕ, zero, suc, ◌+◌, ◌*◌, ◌/◌, ◌%◌, ◌≤◌, ◌<◌}
use native.Mathlib.Nat.{div-eq_of_lt-le, div-zero, eq-or-lt_of_le, div-add-mod', mod-lt}
use native.Mathlib.Omega.{arith}
use borrow.Author.Tests.{leb-true, leb-false, eq-eqb, ne_eqb}
use lib.Dec.{leb, eqb}
use lib.IntN.{ℤ, pos, negsuc, neg_ℤ, nat_abs, ◌-ℤ◌, ◌*ℤ◌}
use Rattle.algebra.proofs.Difference.{split, ℤ⊖}
use Rattle.algebra.proofs.IntLaws.{abs-*}
use Rattle.numbers.specs.Near.{nearest, near, Even, IsNear}

-- ---- of naturals, from the definition

-- nearer to q than a half
nearest-close : (n b q : ℕ) → 2 * (b * q) < 2 * n + b → 2 * n < 2 * (b * q) + b → nearest n b ≡ q
unfolding nearest
nearest-close n b q l h =
    let up : (2 * n + b) / (2 * b) ≡ q = div-eq_of_lt-le {k = q} (2 * b) (omega arith) (omega arith) in
    let cut : eqb (q * (2 * b)) (2 * n + b) ≡ false = ne_eqb (q * (2 * b)) (2 * n + b) (λ e. omega arith) in
    rw (up, cut)

-- from quotient q and remainder r: below a half, above it, and half-way, where it is the even one of the two
nearest-down : (n b q r : ℕ) → q * b + r ≡ n → 2 * r < b → nearest n b ≡ q
nearest-down n b q r e l = nearest-close n b q (omega arith) (omega arith)

nearest-up : (n b q r : ℕ) → q * b + r ≡ n → r < b → b < 2 * r → nearest n b ≡ q + 1
nearest-up n b q r e m l = nearest-close n b (q + 1) (omega arith) (omega arith)

nearest-tie : (n b q r : ℕ) → q * b + r ≡ n → 0 < b → 2 * r ≡ b → nearest n b ≡ q + q % 2
unfolding nearest
nearest-tie n b q r e p t =
    let up : (2 * n + b) / (2 * b) ≡ suc q = div-eq_of_lt-le {k = suc q} (2 * b) (omega arith) (omega arith) in
    let whole : eqb (suc q * (2 * b)) (2 * n + b) ≡ true = eq-eqb (suc q * (2 * b)) (2 * n + b) (omega arith) in
    rw (up, whole) (omega arith)

pub nearest-by-zero : (n : ℕ) → nearest n 0 ≡ 0
unfolding nearest
nearest-by-zero n = rw (div-zero (2 * n + 0)) (either (eqb 0 (2 * n + 0)))
  where
    either : (t : Bool) → cond {A = ℕ} t 0 0 ≡ 0
    either true = refl
    either false = refl

pub nearest-below-half : (n b : ℕ) → 2 * n < b → nearest n b ≡ 0
nearest-below-half n b h = nearest-down n b 0 n (omega arith) h

-- ---- what it is

-- how what is left lies to a half
data Side (r b : ℕ) : Type 0 where
  under : 2 * r < b → Side r b
  middle : 2 * r ≡ b → Side r b
  over : b < 2 * r → Side r b

side : (r b : ℕ) → Side r b
side r b = test (leb (2 * r) b) refl
  where
    test : (t : Bool) → leb (2 * r) b ≡ t → Side r b
    test true l = ⊎_elim middle under (eq-or-lt_of_le (leb-true (2 * r) b l))
    test false l = over (leb-false (2 * r) b l)

-- the code's test, taken and not
pub nearest-next : (n b q r : ℕ) → q * b + r ≡ n → r < b → b < 2 * r + q % 2 → nearest n b ≡ q + 1
nearest-next n b q r e m l = by (side r b)
  where
    by : Side r b → nearest n b ≡ q + 1
    by (under h) = absurd (omega arith)
    by (middle h) = nearest-tie n b q r e (omega arith) h ∙ omega arith
    by (over h) = nearest-up n b q r e m h

pub nearest-stays : (n b q r : ℕ) → q * b + r ≡ n → 0 < b → 2 * r + q % 2 ≤ b → nearest n b ≡ q
nearest-stays n b q r e p l = by (side r b)
  where
    by : Side r b → nearest n b ≡ q
    by (under h) = nearest-down n b q r e h
    by (middle h) = nearest-tie n b q r e p h ∙ omega arith
    by (over h) = absurd (omega arith)

-- q is nearer to n/b than a half, or it is even and no farther than a half
data Lies (n b q : ℕ) : Type 0 where
  close : 2 * (b * q) < 2 * n + b → 2 * n < 2 * (b * q) + b → Lies n b q
  tie : 2 * (b * q) ≤ 2 * n + b → 2 * n ≤ 2 * (b * q) + b → (h : ℕ) → q ≡ 2 * h → Lies n b q

-- half-way from q = 2 h + s to the next
half-way : (n b q h s : ℕ) → q ≡ 2 * h + s → s < 2 → 2 * n ≡ 2 * (b * q) + b → Lies n b (q + s)
half-way n b q h zero e l t = tie (omega arith) (omega arith) h (omega arith)
half-way n b q h (suc zero) e l t = tie (omega arith) (omega arith) (suc h) (omega arith)
half-way n b q h (suc (suc s)) e l t = absurd (omega arith)

lies : (n b : ℕ) → 0 < b → Lies n b (nearest n b)
lies n b p = by (n / b) (n % b) (div-add-mod' n b) (mod-lt n p) (side (n % b) b)
  where
    by : (q r : ℕ) → q * b + r ≡ n → r < b → Side r b → Lies n b (nearest n b)
    by q r e m (under h) = subst⁻¹ (Lies n b) (nearest-down n b q r e h) (close (omega arith) (omega arith))
    by q r e m (middle h) =
        subst⁻¹ (Lies n b) (nearest-tie n b q r e p h) (half-way n b q (q / 2) (q % 2) (omega arith) (omega arith) (omega arith))
    by q r e m (over h) = subst⁻¹ (Lies n b) (nearest-up n b q r e m h) (close (omega arith) (omega arith))

-- nearer than a half, or even
pub strictly : {a q : ℤ} {b : ℕ} → 2 * nat_abs (pos b *ℤ q -ℤ a) < b → IsNear a b q
strictly h = record { half = record { off = omega arith }; even = λ e. absurd (omega arith) }

evenly : {a q : ℤ} {b : ℕ} → 2 * nat_abs (pos b *ℤ q -ℤ a) ≤ b → Even q → IsNear a b q
evenly h e = record { half = record { off = h }; even = λ d. e }

of_natural : (n b q : ℕ) → Lies n b q → IsNear (pos n) b (pos q)
of_natural n b q (close l h) = strictly (nearer l h)
  where
    nearer : 2 * (b * q) < 2 * n + b → 2 * n < 2 * (b * q) + b → 2 * nat_abs (pos b *ℤ pos q -ℤ pos n) < b
    nearer = simp ℤ⊖ (omega arith)
of_natural n b q (tie l h k e) = evenly (no-farther l h) (pos k, ap pos e)
  where
    no-farther : 2 * (b * q) ≤ 2 * n + b → 2 * n ≤ 2 * (b * q) + b → 2 * nat_abs (pos b *ℤ pos q -ℤ pos n) ≤ b
    no-farther = simp ℤ⊖ (omega arith)

-- from one fraction to another that is as far from its number
pub carried : {a c p q : ℤ} {b : ℕ} → nat_abs (pos b *ℤ p -ℤ c) ≡ nat_abs (pos b *ℤ q -ℤ a) → (Even q → Even p) → IsNear a b q → IsNear c b p
carried d e i = record { half = record { off = rw d i.half.off }; even = λ t. e (i.even (rw d at t)) }

pub turned : {a q : ℤ} {b : ℕ} → IsNear a b q → IsNear (neg_ℤ a) b (neg_ℤ q)
turned {a} {q} {b} = carried (mirrored a q) (λ e. (neg_ℤ e.0, ap neg_ℤ e.1 ∙ doubled e.0))
  where
    mirrored : (a q : ℤ) → nat_abs (pos b *ℤ neg_ℤ q -ℤ neg_ℤ a) ≡ nat_abs (pos b *ℤ q -ℤ a)
    mirrored a q = rw (split a, split q) (simp ℤ⊖ (omega arith))

    doubled : (h : ℤ) → neg_ℤ (pos 2 *ℤ h) ≡ pos 2 *ℤ neg_ℤ h
    doubled h = rw (split h) (simp ℤ⊖ (omega arith))

pub near-is : (a : ℤ) (b : ℕ) → 0 < b → IsNear a b (near a b)
unfolding near
near-is (pos n) b h = of_natural n b (nearest n b) (lies n b h)
near-is (negsuc n) b h = turned (of_natural (suc n) b (nearest (suc n) b) (lies (suc n) b h))

-- ---- that nothing else is it

-- |p - q| b is at most the sum of the two distances from a
between : (a p q : ℤ) (b : ℕ) → nat_abs (pos b *ℤ (p -ℤ q)) ≤ nat_abs (pos b *ℤ p -ℤ a) + nat_abs (pos b *ℤ q -ℤ a)
between a p q b = rw (split a, split p, split q) (simp ℤ⊖ (omega arith))

none_apart : (p q : ℤ) → nat_abs (p -ℤ q) ≡ 0 → p ≡ q
none_apart p q = rw (split p, split q) (simp ℤ⊖ (omega arith))

-- two even numbers are not one apart
evens-apart : {p q : ℤ} → Even p → Even q → nat_abs (p -ℤ q) ≡ 1 → ⊥
evens-apart {p} {q} e f h = apart-by-two e.0 f.0 (rw (e.1, f.1) at h)
  where
    apart-by-two : (h k : ℤ) → nat_abs (pos 2 *ℤ h -ℤ pos 2 *ℤ k) ≡ 1 → ⊥
    apart-by-two h k = rw (split h, split k) (simp ℤ⊖ (omega arith))

one_only : {a p q : ℤ} {b : ℕ} → 0 < b → IsNear a b p → IsNear a b q → p ≡ q
one_only {a} {p} {q} {b} z i j = by (nat_abs (p -ℤ q)) refl
  where
    far : b * nat_abs (p -ℤ q) ≤ nat_abs (pos b *ℤ p -ℤ a) + nat_abs (pos b *ℤ q -ℤ a)
    far = omega (arith, between a p q b, abs-* (pos b) (p -ℤ q))

    by : (m : ℕ) → nat_abs (p -ℤ q) ≡ m → p ≡ q
    by zero e = none_apart p q e
    by (suc zero) e =
        let l = rw e at far in
        absurd (evens-apart (i.even (omega (arith, i.half.off, j.half.off))) (j.even (omega (arith, i.half.off, j.half.off))) e)
    by (suc (suc m)) e =
        let l = rw e at far in
        absurd (omega (arith, i.half.off, j.half.off))

-- a number that is off by at most a half, and even where it is off by exactly a half, is near(a/b)
pub near-only : (a : ℤ) (b : ℕ) (q : ℤ) → 0 < b → IsNear a b q → near a b ≡ q
near-only a b q h i = one_only h (near-is a b h) i

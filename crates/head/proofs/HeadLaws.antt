-- What the checks say of what passes them: the site is nine bytes, the epoch is small.
use mathlib.Core.Path.{◌≡◌, refl, sym, ◌∙◌}
use mathlib.Core.Bool.{Bool, true, true≢false}
use mathlib.Core.Logic.{◌↔◌, inl, inr}
use mathlib.Core.List.{List}
use Prim.Native.Nat.{ℕ, zero, suc, ◌+◌, ◌≤◌, ◌<◌}
use native.Mathlib.Omega.{arith}
use Rattle.std.proofs.lemmas.Bool.{cases_lt, cases_Bool}
use Rattle.std.specs.Prelude.{EachIndex, IsTrue}
use borrow.Author.Tests.{leb-true, eqb-true}
use lib.Dec.{eqb}
use lib.ListN.{length, get_or}
use lib.IntN.{ℤ, nat_abs}
use Rattle.algebra.proofs.BoolLaws.{and_left, both}
use Rattle.head.specs.Head.{shape_at, shape_from, site_shape, epoch_fits}

pub site-nine : (s : List ℕ) → site_shape s ≡ true → length s ≡ 9
unfolding site_shape
site-nine s e = eqb-true (length s) 9 (and_left (eqb (length s) 9) (shape_from s 0 9) e)

pub epoch-small : (e : ℤ) → epoch_fits e ≡ true → nat_abs e ≤ 146100
unfolding epoch_fits
epoch-small e h = leb-true (nat_abs e) 146100 h

-- ---- the shape of a site, byte by byte

pub each-from : (s : List ℕ) (i k : ℕ) → shape_from s i k ≡ true → (j : ℕ) → i ≤ j → j < i + k → shape_at j (get_or s j 0) ≡ true
unfolding shape_from
each-from s i zero e j l h = absurd (omega (arith, l, h))
each-from s i (suc k) e j l h =
    let b = both (shape_at i (get_or s i 0)) (shape_from s (i + 1) k) e in
    elim (cases_lt i j) [
      | inl q ↦ each-from s (i + 1) k b.1 j (omega (arith, q)) (omega (arith, h))
      | inr q ↦ let e : i ≡ j = omega (arith, l, q) in rw (← e) b.0
    ]

pub from-each : (s : List ℕ) (i k : ℕ) → ((j : ℕ) → i ≤ j → j < i + k → shape_at j (get_or s j 0) ≡ true) → shape_from s i k ≡ true
unfolding shape_from
from-each s i zero h = refl
from-each s i (suc k) h =
    rw (h i (omega arith) (omega arith), from-each s (i + 1) k (λ j l m. h j (omega (arith, l)) (omega (arith, m))))

-- what says of nine bytes that each fits its place is their shape
pub shape-each : (s : List ℕ) (r : Bool) → length s ≡ 9 → (IsTrue r ↔ EachIndex s (λ i. IsTrue (shape_at i (get_or s i 0)))) → r ≡ site_shape s
unfolding site_shape
shape-each s r e h = rw e (elim (cases_Bool r) [
  | inl t ↦ t ∙ sym (from-each s 0 9 (λ j l m. h.0 t j (omega (arith, m, e))))
  | inr f ↦ elim (cases_Bool (shape_from s 0 9)) [
    | inl u ↦ absurd (true≢false (sym (h.1 (λ j m. each-from s 0 9 u j (omega arith) (omega (arith, m, e)))) ∙ f))
    | inr u ↦ f ∙ sym u
  ]
])

-- Machine numbers with ranges: which plain whole number an i64 term is, and how large it can be.
--
-- A stored i64 shows as `to_z w64 (of_z w64 x)` at every turn. `Va x z n` says that the machine term x is the plain number z,
-- and that z is at most n in size. Where n is a numeral, each range is closed by `lit< tt`. A chain starts from a parameter
-- (`given`), a literal (`lit`) or a natural (`of_u`), goes on by `v+ v- v* vneg` and `at`, one `at` for each store, and
-- answers a need by `fit` (the result fits) or `told` (the equation).
use mathlib.Core.Path.{◌≡◌, refl, sym, ap, ap₂, ◌∙◌, subst, subst⁻¹}
use mathlib.Core.Bool.{Bool, true, false}
use Prim.Native.Nat.{ℕ, suc, ◌+◌, ◌*◌, ◌^◌, ◌≤◌, ◌<◌}
use native.Mathlib.Nat.{le_refl, lt_of_le_of_lt, mul-le-mul, not-suc-le-zero}
use native.Mathlib.Omega.{arith}
use lib.Dec.{T, ltb→lt}
use lib.IntN.{ℤ, pos, negsuc, neg_ℤ, nat_abs, ◌+ℤ◌, ◌-ℤ◌, ◌*ℤ◌, +ℤ_idl}
use lib.Signed.{mag, lt_z, ◌≤ℤ◌, ◌<ℤ◌, lt_z_no}
use mir.Syntax.{w64}
use mir.Val.{SFits, to_z, of_z}
use mir.Facts.{to_z-of_z, to_z_pos}
use Rattle.algebra.proofs.IntLaws.{abs-+, abs--, abs-*, abs_neg}

-- a number as it is read back
abbrev pub rd : ℤ → ℤ
rd z = to_z w64 (of_z w64 z)

pub record Va (x z : ℤ) (n : ℕ) : Type 0 where
  pub told : x ≡ z
  pub small : nat_abs z ≤ n

-- ---- sizes

mag-le : (z : ℤ) → mag z ≤ nat_abs z
mag-le (pos n) = le_refl n
mag-le (negsuc n) = omega arith

pub sfits-abs : {z : ℤ} {n : ℕ} → nat_abs z ≤ n → n < 2 ^ 63 → SFits w64 z
sfits-abs {z} h k = record { sfits = lt_of_le_of_lt (mag-le z) (lt_of_le_of_lt h k) }

-- ---- where a chain starts

pub plain : (z : ℤ) {n : ℕ} → nat_abs z ≤ n → Va z z n
plain z h = record { told = refl; small = h }

pub lit : (k : ℕ) → Va (pos k) (pos k) k
lit k = plain (pos k) (le_refl k)

-- a parameter or a field, of which a bound is known
pub given : {z : ℤ} {n : ℕ} → SFits w64 z → nat_abs z ≤ n → Va (to_z w64 (of_z w64 z)) z n
given f h = record { told = to_z-of_z f; small = h }

-- a natural as an i64
pub of_u : {m n : ℕ} → m ≤ n → n < 2 ^ 63 → Va (to_z w64 m) (pos m) n
of_u {m} h k = record { told = to_z_pos w64 (lt_of_le_of_lt h k); small = h }

-- what a call answered, read back; its `.ok` is the second argument
pub answered : (r : ℤ) → mag r < 2 ^ 63 → to_z w64 (of_z w64 r) ≡ r
answered r h = to_z-of_z {w = w64} (record { sfits = h })

-- ---- how it goes on

-- the same number in another form, with a bound of its own
pub vis : {x z y : ℤ} {n m : ℕ} → Va x z n → z ≡ y → nat_abs y ≤ m → Va x y m
vis v e h = record { told = v.told ∙ e; small = h }

pub at : {x z : ℤ} {n : ℕ} → Va x z n → n < 2 ^ 63 → Va (to_z w64 (of_z w64 x)) z n
at {x} {z} {n} v h =
    record {
      told = to_z-of_z (subst⁻¹ (λ (y : ℤ). SFits w64 y) v.told (sfits-abs v.small h)) ∙ v.told;
      small = v.small;
    }

pub v+ : {x y a b : ℤ} {n m : ℕ} → Va x a n → Va y b m → Va (x +ℤ y) (a +ℤ b) (n + m)
v+ {x} {y} {a} {b} {n} {m} v w =
    let h : nat_abs a ≤ n = v.small in
    let k : nat_abs b ≤ m = w.small in
    record { told = ap₂ (λ (s t : ℤ). s +ℤ t) v.told w.told; small = omega (arith, abs-+ a b) }

pub v- : {x y a b : ℤ} {n m : ℕ} → Va x a n → Va y b m → Va (x -ℤ y) (a -ℤ b) (n + m)
v- {x} {y} {a} {b} {n} {m} v w =
    let h : nat_abs a ≤ n = v.small in
    let k : nat_abs b ≤ m = w.small in
    record { told = ap₂ (λ (s t : ℤ). s -ℤ t) v.told w.told; small = omega (arith, abs-- a b) }

pub v* : {x y a b : ℤ} {n m : ℕ} → Va x a n → Va y b m → Va (x *ℤ y) (a *ℤ b) (n * m)
v* {x} {y} {a} {b} {n} {m} v w =
    record {
      told = ap₂ (λ (s t : ℤ). s *ℤ t) v.told w.told;
      small = rw (abs-* a b) (mul-le-mul v.small w.small);
    }

-- -x, which the machine makes as 0 - x
pub vneg : {x a : ℤ} {n : ℕ} → Va x a n → Va (pos 0 -ℤ x) (neg_ℤ a) n
vneg {x} {a} {n} v =
    record {
      told = ap (λ (s : ℤ). pos 0 -ℤ s) v.told ∙ +ℤ_idl (neg_ℤ a);
      small = subst (λ (k : ℕ). k ≤ n) (sym (abs_neg a)) v.small;
    }

-- ---- what it answers

pub fit : {x z : ℤ} {n : ℕ} → Va x z n → n < 2 ^ 63 → SFits w64 x
fit v h = subst⁻¹ (λ (y : ℤ). SFits w64 y) v.told (sfits-abs v.small h)

-- the size of a number that is not negative
pub told_U : {x : ℤ} {m n : ℕ} → Va x (pos m) n → nat_abs x ≡ m
told_U v = ap nat_abs v.told

-- ---- what a comparison says

lt_yes : (a b : ℤ) → lt_z a b ≡ true → a <ℤ b
lt_yes a b e = record { lt = subst⁻¹ T e tt }

lt_no : (a b : ℤ) → lt_z a b ≡ false → b ≤ℤ a
lt_no a b e = lt_z_no (subst⁻¹ (λ (t : Bool). T (mathlib.Core.Bool.not t)) e tt)

-- a test of x against y, as a fact of the plain numbers
pub less : {x y a b : ℤ} {n m : ℕ} → Va x a n → Va y b m → lt_z x y ≡ true → a <ℤ b
less {x} {y} {a} {b} v w e = lt_yes a b (sym (ap₂ lt_z v.told w.told) ∙ e)

pub not_less : {x y a b : ℤ} {n m : ℕ} → Va x a n → Va y b m → lt_z x y ≡ false → b ≤ℤ a
not_less {x} {y} {a} {b} v w e = lt_no a b (sym (ap₂ lt_z v.told w.told) ∙ e)

-- a size, as it came back
pub size_of : (r : ℕ) (z : ℤ) → SFits w64 z → r ≡ nat_abs (rd z) → r ≡ nat_abs z
size_of r z f e = e ∙ ap nat_abs (to_z-of_z f)

-- ---- the sign, as `a < 0` tells it: a is -(k + 1) or k, with k below 2^63

pub record Negative (a : ℤ) : Type 0 where
  pub k : ℕ
  pub is : a ≡ negsuc k
  pub small : k < 2 ^ 63

pub record Positive (a : ℤ) : Type 0 where
  pub k : ℕ
  pub is : a ≡ pos k
  pub small : k < 2 ^ 63

pub negative : (a : ℤ) → SFits w64 a → lt_z (to_z w64 (of_z w64 a)) (pos 0) ≡ true → Negative a
negative (pos n) f t = absurd (not-suc-le-zero (ltb→lt n 0 (less (given f (le_refl n)) (lit 0) t).lt))
negative (negsuc n) f t = record { k = n; is = refl; small = f.sfits }

pub positive : (a : ℤ) → SFits w64 a → lt_z (to_z w64 (of_z w64 a)) (pos 0) ≡ false → Positive a
positive (pos n) f t = record { k = n; is = refl; small = f.sfits }
positive (negsuc n) f t = absurd (not_less (given f (le_refl (suc n))) (lit 0) t).le

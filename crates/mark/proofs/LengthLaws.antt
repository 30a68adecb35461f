-- A vector and its whole length: each component is at most the length. A length in a range, and the same of the sum of squares: 0 where it is
-- not in the range, else the length or the sum.
use mathlib.Core.Path.{◌≡◌, refl}
use mathlib.Core.Bool.{Bool, true, false, cond, ◌&&◌}
use Prim.Native.Nat.{ℕ, ◌+◌, ◌*◌, ◌^◌, ◌≤◌, ◌<◌}
use native.Mathlib.Nat.{le_trans}
use native.Mathlib.Omega.{arith}
use borrow.Author.Tests.{leb-true, le-leb, lt-leb, lt-ltb}
use lib.Dec.{leb}
use lib.IntN.{ℤ, nat_abs}
use Rattle.algebra.proofs.BoolLaws.{and_left, and_right}
use Rattle.numbers.specs.Root.{root}
use Rattle.numbers.proofs.RootLaws.{root-least, root_below}
use Rattle.std.specs.Prelude.{Option, Some, None}
use Rattle.mark.specs.declared.Vec3.{Vec3}
use Rattle.mark.specs.Mark.{vec, squares, between, length_of, squares_within, length_within, squares_asked}
use Rattle.mark.specs.Ranges.{Within}

-- ---- vectors

pub vec≡ : {a b c a' b' c' : ℤ} → a ≡ a' → b ≡ b' → c ≡ c' → vec a b c ≡ vec a' b' c'
vec≡ p q r = cc

pub widen : {n k : ℕ} {v : Vec3} → Within n v → n ≤ k → Within k v
widen w h = record { x = le_trans w.x h; y = le_trans w.y h; z = le_trans w.z h }

-- each component is at most the whole length
pub within-length : (v : Vec3) → Within (length_of v) v
unfolding squares length_of
within-length v =
    let x : ℕ = nat_abs v.x in
    let y : ℕ = nat_abs v.y in
    let z : ℕ = nat_abs v.z in
    let n : ℕ = x * x + y * y + z * z in
    record { x = root-least n x (omega arith); y = root-least n y (omega arith); z = root-least n z (omega arith) }

-- ---- a length in a range

pub at_least : (low high n : ℕ) → between low high n ≡ true → low ≤ n
at_least low high n e = leb-true low n (and_left (leb low n) (leb n high) e)

pub at_most : (low high n : ℕ) → between low high n ≡ true → n ≤ high
at_most low high n e = leb-true n high (and_right (leb low n) (leb n high) e)

-- what is 0 outside the range, and not 0 in it
zero-outside : (b : Bool) (n : ℕ) → (b ≡ true → 0 < n) → cond b n 0 ≡ 0 → b ≡ false
zero-outside true n h e = absurd (let l : 0 < n = h refl in omega arith)
zero-outside false n h e = refl

some-inside : (b : Bool) (n : ℕ) → (cond b n 0 ≡ 0 → ⊥) → b ≡ true
some-inside true n h = refl
some-inside false n h = absurd (h refl)

-- the same of what is none outside the range
none-outside : (b : Bool) (n : ℕ) → ◌≡◌ {A = Option ℕ} (cond b (Some n) None) None → b ≡ false
none-outside true n h = absurd (cc)
none-outside false n h = refl

one-inside : (b : Bool) (n k : ℕ) → ◌≡◌ {A = Option ℕ} (cond b (Some n) None) (Some k) → (b ≡ true) × (k ≡ n)
one-inside true n k h = (refl, cc)
one-inside false n k h = absurd (cc)

module _ (low high : ℕ) (v : Vec3) where
  abbrev in-range : Bool
  in-range = between low high (length_of v)

  pub length-zero : 0 < low → length_within low high v ≡ 0 → in-range ≡ false
  unfolding length_within
  length-zero h e = zero-outside in-range (length_of v) (λ t. omega (arith, at_least low high (length_of v) t)) e

  pub length_some : (length_within low high v ≡ 0 → ⊥) → in-range ≡ true
  unfolding length_within
  length_some h = some-inside in-range (length_of v) h

  pub length-is : in-range ≡ true → length_within low high v ≡ length_of v
  unfolding length_within
  length-is e = rw e

  pub squares-none : squares_within low high v ≡ None → in-range ≡ false
  unfolding squares_within
  squares-none e = none-outside in-range (squares v) e

  pub squares-some : (n : ℕ) → squares_within low high v ≡ Some n → (in-range ≡ true) × (n ≡ squares v)
  unfolding squares_within
  squares-some n e = one-inside in-range (squares v) n e

  -- the range, in squares
  pub squares-below : squares v < low * low → squares_within low high v ≡ None
  unfolding squares_within length_of
  squares-below h = rw (lt-leb low (root (squares v)) (root_below (squares v) low h))

  pub length_above : high < length_of v → squares_within low high v ≡ None
  unfolding squares_within
  length_above h = rw (lt-leb (length_of v) high h) (no (leb low (length_of v)))
    where
      no : (t : Bool) → ◌≡◌ {A = Option ℕ} (cond (t && false) (Some (squares v)) None) None
      no true = refl
      no false = refl

  pub squares-above : high * (high + 2) < squares v → squares_within low high v ≡ None
  unfolding length_of
  squares-above h =
      let l : (high + 1) * (high + 1) ≤ squares v = omega arith in
      length_above (omega (arith, root-least (squares v) (high + 1) l))

  pub squares-between : low * low ≤ squares v → squares v ≤ high * (high + 2) → squares_within low high v ≡ Some (squares v)
  unfolding squares_within length_of
  squares-between l h =
      let k : squares v < (high + 1) * (high + 1) = omega arith in
      let m : root (squares v) ≤ high = omega (arith, root_below (squares v) (high + 1) k) in
      rw (le-leb low (root (squares v)) (root-least (squares v) low l), le-leb (root (squares v)) high m)

  -- a range the wrong way round holds nothing
  pub no-range : high < low → squares_within low high v ≡ None
  unfolding squares_within
  no-range h = rw (none (leb low (length_of v)) (leb (length_of v) high) refl refl)
    where
      none : (s t : Bool) → leb low (length_of v) ≡ s → leb (length_of v) high ≡ t → s && t ≡ false
      none true true e f = absurd (omega (arith, leb-true low (length_of v) e, leb-true (length_of v) high f))
      none true false e f = refl
      none false t e f = refl

  -- what is answered for any range
  pub asked : high < 2 ^ 30 → squares_asked low high v ≡ squares_within low high v
  asked h = rw (lt-ltb high (2 ^ 30) h)

  -- the root of what is within
  pub root-within : (n : ℕ) → squares_within low high v ≡ Some n → root n ≡ length_within low high v
  unfolding length_within length_of
  root-within n e =
      let k = squares-some n e in
      rw (k.0, k.1)

  pub outside-zero : squares_within low high v ≡ None → length_within low high v ≡ 0
  unfolding length_within
  outside-zero e = rw (squares-none e)

-- An accepted mark: its whole length is from 6,300,000 to 6,400,000 metres, and no component is longer.
use mathlib.Core.Path.{◌≡◌, refl, sym, ◌∙◌}
use mathlib.Core.Bool.{true, false, Bool}
use Prim.Native.Nat.{ℕ, ◌≤◌}
use native.Mathlib.Omega.{arith}
use Rattle.refusal.specs.Refusal.{first}
use Rattle.std.specs.Prelude.{Some, None}
use Rattle.refusal.specs.declared.Refusal.{Refusal}
use Rattle.refusal.specs.declared.Refusal.TheVariants as Is
use Rattle.refusal.specs.Answered.{number_of}
use Rattle.refusal.proofs.AnsweredLaws.{some, only}
use Rattle.mark.specs.declared.Vec3.{Vec3}
use Rattle.mark.specs.Mark.{length_of, marked, mark_number, squares_within, length_within}
use Rattle.mark.specs.Ranges.{Within}
use Rattle.mark.proofs.LengthLaws.{widen, within-length, at_least, at_most, length-is, squares-none, squares-some}

-- the same, from the sum of squares
pub squares-unmarked : (m : Vec3) → squares_within 6300000 6400000 m ≡ None → marked m ≡ false
unfolding marked
squares-unmarked m e = squares-none 6300000 6400000 m e

pub squares-accepted : (m : Vec3) (n : ℕ) → squares_within 6300000 6400000 m ≡ Some n → marked m ≡ true
unfolding marked
squares-accepted m n e = (squares-some 6300000 6400000 m n e).0

pub accepted-length : (m : Vec3) → marked m ≡ true → length_within 6300000 6400000 m ≡ length_of m
unfolding marked
accepted-length m e = length-is 6300000 6400000 m e

-- each component of an accepted mark is at most 6,400,000 metres
pub accepted-within : (m : Vec3) → marked m ≡ true → Within 6400000 m
unfolding marked
accepted-within m e =
    widen (within-length m) (at_most 6300000 6400000 (length_of m) e)

-- ---- the numbers

pub number-marked : (m : Vec3) → marked m ≡ true → mark_number m ≡ 0
unfolding mark_number first
number-marked m e = rw e

pub number-unmarked : (m : Vec3) → marked m ≡ false → mark_number m ≡ 6
unfolding mark_number first
number-unmarked m e = rw e

-- ---- the tide

pub mark-long : (m : Vec3) → marked m ≡ true → 6300000 ≤ length_of m
unfolding marked
mark-long m e = at_least 6300000 6400000 (length_of m) e

-- a mark by its number
pub mark-accepted : (m : Vec3) (n : ℕ) → n ≡ mark_number m → n ≡ 0 → marked m ≡ true
mark-accepted m n e z = go (marked m) refl
  where
    go : (t : Bool) → marked m ≡ t → t ≡ true
    go true p = refl
    go false p = absurd (six (sym z ∙ e ∙ number-unmarked m p))
      where
        six : ◌≡◌ {A = ℕ} 0 6 → ⊥
        six h = omega arith

pub mark-refused : (m : Vec3) (n : ℕ) → n ≡ mark_number m → (n ≡ 0 → ⊥) → marked m ≡ false
mark-refused m n e z = go (marked m) refl
  where
    go : (t : Bool) → marked m ≡ t → t ≡ false
    go true p = absurd (z (e ∙ number-marked m p))
    go false p = refl

-- ---- what the mark's check and its length answer

pub check-refused : (m : Vec3) (e : Refusal) → number_of e ≡ mark_number m → (marked m ≡ false) × (e ≡ Is.Mark)
check-refused m e h =
    let u = mark-refused m (number_of e) h (some e) in
    (u, only e Is.Mark (h ∙ number-unmarked m u))

pub check-accepted : (m : Vec3) → 0 ≡ mark_number m → marked m ≡ true
check-accepted m h = mark-accepted m 0 h refl

-- More of a card that passed its checks: the size of its position, and byte 10 without solid tide.
use mathlib.Core.Path.{◌≡◌, ap}
use mathlib.Core.Bool.{true, false, ◌||◌}
use Prim.Native.Nat.{ℕ, ◌≤◌}
use native.Mathlib.Omega.{arith}
use lib.Dec.{eqb, lit≤}
use lib.IntN.{ℤ, pos, negsuc, nat_abs}
use Rattle.algebra.proofs.BoolLaws.{and_left, and_right}
use Rattle.mark.specs.declared.Vec3.{Vec3}
use Rattle.mark.specs.Mark.{nowhere, marked, sized}
use Rattle.mark.specs.Ranges.{Within}
use Rattle.mark.proofs.LengthLaws.{vec≡, widen}
use Rattle.mark.proofs.MarkLaws.{accepted-within}
use Rattle.mark.proofs.SizeLaws.{sized-is}
use Rattle.head.specs.State.{state_of, state_fits}
use Rattle.head.proofs.StateLaws.{fits_low}
use Rattle.card.specs.Checks.{is_zero, tide_fits, position_fits}
use Rattle.card.proofs.CheckLaws.{position-small}

-- ---- sizes

pub position-size : (m p : Vec3) → marked m ≡ true → position_fits m p ≡ true → Within 10000000000000000 p
position-size m p e f = widen (position-small m p (accepted-within m e) f) (lit≤ tt)

-- ---- byte 10

-- without solid tide it is 0 or 1
pub tide-low : (byte : ℕ) (v : Vec3) → tide_fits byte v ≡ true → eqb (state_of byte) 2 ≡ false → byte ≤ 1
unfolding tide_fits
tide-low byte v e f = fits_low byte (and_left (state_fits byte) (eqb (state_of byte) 2 || is_zero v) e) f

size-zero : (z : ℤ) → nat_abs z ≤ 0 → z ≡ pos 0
size-zero (pos n) h = ap pos (omega arith)
size-zero (negsuc n) h = absurd (omega arith)

-- and no vector is stored
pub solid-none : (byte : ℕ) (v : Vec3) → tide_fits byte v ≡ true → eqb (state_of byte) 2 ≡ false → v ≡ nowhere
unfolding tide_fits is_zero
solid-none byte v e f =
    let w : Within 0 v = sized-is 0 v (rw f at (and_right (state_fits byte) (eqb (state_of byte) 2 || sized 0 v) e)) in
    vec≡ (size-zero v.x w.x) (size-zero v.y w.y) (size-zero v.z w.z)

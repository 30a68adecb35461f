-- `field::record::in_metres` meets its contract: the number is at most 2^53 in size, so its double is exact, and the divisor's bits are those of
-- 1461000000. Assumes nothing.
use mathlib.Core.Path.{◌≡◌, refl, ap₂, subst⁻¹}
use Prim.Native.Nat.{◌≤◌}
use native.Mathlib.Omega.{arith}
use lib.Dec.{T, le→leb, lt→ltb}
use lib.IntN.{ℤ, pos, negsuc, nat_abs}
use lib.Ieee.{Float, binary64, in_float, of_int, of_bits, div}
use mir.Facts.{to_z-of_z}
use Rattle.field.specs.MetresOut.{in_metres}
use Rattle.field.proofs.record.in_metres.Statement.{statement}
use Rattle.field.proofs.record.in_metres.Tie as tie

exact : (z : ℤ) → nat_abs z ≤ 1461000000000 → T (in_float binary64 z)
unfolding in_float
exact (pos n) h = le→leb n 9007199254740992 (omega arith)
exact (negsuc n) h = lt→ltb n 9007199254740992 (omega arith)

metre : of_bits binary64 4743914686137761792 ≡ of_int binary64 (pos 1461000000)
unfolding of_bits of_int
metre = refl

int-to-float-result : tie.Need-int_to_float-result
int-to-float-result c =
    subst⁻¹ (λ (z : ℤ). T (in_float binary64 z)) (to_z-of_z c.ranges.z) (exact c.args.z c.requires)

divided : (x z : ℤ) (d : Float) → x ≡ z → d ≡ of_int binary64 (pos 1461000000) → div binary64 (of_int binary64 x) d ≡ in_metres z
unfolding in_metres
divided x z d p q = ap₂ (λ (y : ℤ) (e : Float). div binary64 (of_int binary64 y) e) p q

pub in_metres_spec : {M : Type 1} → statement M
in_metres_spec =
    tie.close
    (tie.spec int-to-float-result (λ c. divided _ c.args.z _ (to_z-of_z c.ranges.z) metre))

-- A double by what it rounds to.
use Rattle.std.proofs.Common.{◌≡◌, refl, ap, ◌∙◌, ◌^◌, Bool, true, false, cond, leb, ℤ, pos, nat_abs, Float, Result, Ok, Err}
use lib.Dec.{lit<}
use Rattle.algebra.proofs.Machine.{at, plain}
use Rattle.refusal.specs.declared.Refusal.{Refusal}
use Rattle.refusal.specs.declared.Refusal.TheVariants.{BodyNotFinite}
use Rattle.tides.specs.Bodies.{is_number, number_of}
use Rattle.tides.specs.Steps.{clipped, coordinate_of}
use mir.Syntax.{w64}
use mir.Val.{to_z, of_z}
use Rattle.numbers.specs.declared.Rounded.{Rounded}
use Rattle.numbers.specs.declared.Rounded.TheVariants.{NotFinite, Far, Number}
use Rattle.numbers.specs.Whole.{Nearest, none, some, whole_of, Means, shown}
use Rattle.numbers.proofs.WholeLaws.{means-shown}
use Rattle.tides.proofs.bodies.whole_of.Goals as goal

-- what is told of a double, as the number that stands for it
abbrev told : Rounded → Result ℤ Refusal
told NotFinite = Err BodyNotFinite
told Far = Ok (pos (2 ^ 31))
told (Number z) = Ok z

-- past 2^30, or not
told-some : (t : Bool) (z : ℤ) → told (cond t (Number z) Far) ≡ Ok (cond t z (pos (2 ^ 31)))
told-some true z = refl
told-some false z = refl

told_is : (n : Nearest) → told (shown n) ≡ cond (is_number n) (Ok (clipped (number_of n))) (Err BodyNotFinite)
unfolding shown clipped
told_is none = refl
told_is (some z) = told-some (leb (nat_abs z) (2 ^ 30)) z

from : (x : Float) (r : Rounded) → Means r (whole_of x) → told r ≡ coordinate_of x
unfolding coordinate_of
from x r m = ap told (means-shown r (whole_of x) m) ∙ told_is (whole_of x)

-- within 2^30 the machine's number is the number
near_told : (z : ℤ) (n : Nearest) → Means (Number z) n → to_z w64 (of_z w64 z) ≡ z
unfolding Means
near_told z n m = (at (plain z m.1) (lit< tt)).told

pub returns-in-NotFinite : goal.returns-in-NotFinite
returns-in-NotFinite c = from c.args.x NotFinite c.in-NotFinite.ensures

pub returns-in-Far : goal.returns-in-Far
returns-in-Far c = from c.args.x Far c.in-Far.ensures

pub returns-in-Number : goal.returns-in-Number
returns-in-Number c =
    ap Ok (near_told c.in-Number.z (whole_of c.args.x) c.in-Number.ensures)
    ∙ from c.args.x (Number c.in-Number.z) c.in-Number.ensures

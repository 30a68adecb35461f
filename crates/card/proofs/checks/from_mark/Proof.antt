-- `card::checks::from_mark` meets its contract: p - 1,461,000,000 m, a component at a time. Assumes nothing.
use mathlib.Core.Path.{◌≡◌}
use Prim.Native.Nat.{◌≤◌}
use lib.Dec.{lit<}
use lib.IntN.{ℤ, pos, nat_abs, ◌-ℤ◌, ◌*ℤ◌}
use mir.Syntax.{w64}
use mir.Val.{SFits}
use Rattle.algebra.proofs.Machine.{rd, Va, given, lit, at, v-, v*, fit}
use Rattle.mark.specs.declared.Vec3.{Vec3}
use Rattle.mark.specs.Mark.{vec, metre, minus, scaled}
use Rattle.mark.specs.Ranges.{Within}
use Rattle.mark.proofs.LengthLaws.{vec≡}
use Rattle.mark.proofs.SizeLaws.{sized-within}
use Rattle.card.specs.Checks.{from_mark}
use Rattle.card.proofs.checks.from_mark.Statement.{statement}
use Rattle.card.proofs.checks.from_mark.Tie as tie

-- one component
module _ (m p : ℤ) (fm : SFits w64 m) (fp : SFits w64 p) (hm : nat_abs m ≤ 6400000) (hp : nat_abs p ≤ 10000000000000000) where
  product : Va (pos 1461000000 *ℤ rd m) (pos metre *ℤ m) 9350400000000000
  product = v* (lit 1461000000) (given fm hm)

  less : Va (rd p -ℤ rd (pos 1461000000 *ℤ rd m)) (p -ℤ pos metre *ℤ m) 19350400000000000
  less = v- (given fp hp) (at product (lit< tt))

  apart : rd (rd p -ℤ rd (pos 1461000000 *ℤ rd m)) ≡ p -ℤ pos metre *ℤ m
  apart = (at less (lit< tt)).told

-- what is known of each component when it is read
mx-fits : (c : tie.After-struct_told-1) → SFits w64 c.args.m.x
mx-fits c = record { sfits = c.struct_told-1.given.0.1 }

px-fits : (c : tie.After-struct_told-2-1) → SFits w64 c.args.p.x
px-fits c = record { sfits = c.struct_told-2-1.given.0.1 }

my-fits : (c : tie.After-struct_told-3-1) → SFits w64 c.args.m.y
my-fits c = record { sfits = c.struct_told-3-1.given.1.0.1 }

py-fits : (c : tie.After-struct_told-4-1) → SFits w64 c.args.p.y
py-fits c = record { sfits = c.struct_told-4-1.given.1.0.1 }

mz-fits : (c : tie.After-struct_told-5-1) → SFits w64 c.args.m.z
mz-fits c = record { sfits = c.struct_told-5-1.given.1.1.0.1 }

pz-fits : (c : tie.After-struct_told-6-1) → SFits w64 c.args.p.z
pz-fits c = record { sfits = c.struct_told-6-1.given.1.1.0.1 }

m-within : (s : tie.Start) → Within 6400000 s.args.m
m-within s = sized-within 6400000 s.args.m s.requires.0

p-within : (s : tie.Start) → Within 10000000000000000 s.args.p
p-within s = sized-within 10000000000000000 s.args.p s.requires.1

sub-t4 : tie.Need-overflow_sub-result
sub-t4 c =
    fit (less c.args.m.x c.args.p.x (mx-fits c.before.before) (px-fits c) (m-within c.before.before.before.before).x (p-within c.before.before.before.before).x) (lit< tt)

sub-t6 : tie.Need-overflow_sub-result-2
sub-t6 c =
    fit (less c.args.m.y c.args.p.y (my-fits c.before.before) (py-fits c) (m-within c.before.before.before.before.before.before.before.before).y (p-within c.before.before.before.before.before.before.before.before).y) (lit< tt)

mul-t7 : tie.Need-overflow_mul-result-3
mul-t7 c = fit (v* (lit 1461000000) (given (mz-fits c) (m-within c.before.before.before.before.before.before.before.before.before.before).z)) (lit< tt)

sub-t8 : tie.Need-overflow_sub-result-3
sub-t8 c =
    fit (less c.args.m.z c.args.p.z (mz-fits c.before.before) (pz-fits c) (m-within c.before.before.before.before.before.before.before.before.before.before.before.before).z (p-within c.before.before.before.before.before.before.before.before.before.before.before.before).z) (lit< tt)

named : (m p : Vec3) (x y z : ℤ) → x ≡ p.x -ℤ pos metre *ℤ m.x → y ≡ p.y -ℤ pos metre *ℤ m.y → z ≡ p.z -ℤ pos metre *ℤ m.z → vec x y z ≡ from_mark m p
unfolding from_mark minus scaled
named m p x y z e f g = vec≡ e f g

returns : tie.Need-returns
returns c =
    named c.args.m c.args.p _ _ _
    (apart c.args.m.x c.args.p.x (mx-fits c.before.before.before.before.before.before.before.before.before.before) (px-fits c.before.before.before.before.before.before.before.before) (m-within c.before.before.before.before.before.before.before.before.before.before.before.before).x (p-within c.before.before.before.before.before.before.before.before.before.before.before.before).x)
    (apart c.args.m.y c.args.p.y (my-fits c.before.before.before.before.before.before) (py-fits c.before.before.before.before) (m-within c.before.before.before.before.before.before.before.before.before.before.before.before).y (p-within c.before.before.before.before.before.before.before.before.before.before.before.before).y)
    (apart c.args.m.z c.args.p.z (mz-fits c.before.before) (pz-fits c) (m-within c.before.before.before.before.before.before.before.before.before.before.before.before).z (p-within c.before.before.before.before.before.before.before.before.before.before.before.before).z)

pub from_mark_spec : {M : Type 1} → statement M
from_mark_spec =
    tie.close
    (tie.spec (λ c. fit (v* (lit 1461000000) (given (mx-fits c) (m-within c.before.before).x)) (lit< tt)) sub-t4
    (λ c. fit (v* (lit 1461000000) (given (my-fits c) (m-within c.before.before.before.before.before.before).y)) (lit< tt)) sub-t6 mul-t7
    sub-t8 returns)

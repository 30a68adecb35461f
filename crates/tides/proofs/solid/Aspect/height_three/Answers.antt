-- Each term is in its range.
use Rattle.std.proofs.Common.{◌≡◌, ap, ◌∙◌, ◌+◌, ◌*◌, ◌≤◌, ℤ, pos, ◌*ℤ◌, ◌-ℤ◌, nat_abs}
use lib.Dec.{lit<, lit≤}
use Rattle.algebra.proofs.Machine.{rd, Va, lit, at, v-, v*, fit}
use Rattle.tides.specs.Direction.{E}
use Rattle.tides.specs.Tide.{cube, height_three}
use Rattle.tides.proofs.StepLaws.{said, held}
use Rattle.tides.proofs.DegreeThreeLaws.{cosine-cube}
use Rattle.numbers.proofs.NearSteps.{vnear}
use Rattle.tides.proofs.solid.Aspect.height_three.Goals as goal

module _ (c r : ℤ) (h : nat_abs c ≤ E + 182) (e : r ≡ cube (rd c)) where
  vc : Va (rd c) c (E + 182)
  vc = held c (E + 182) h (lit< tt)

  five : Va (pos 5 *ℤ rd r) (pos 5 *ℤ cube c) (5 * (E + 548))
  five = v* (lit 5) (said (e ∙ ap cube vc.told) (cosine-cube c h) (lit< tt))

  whole : Va (rd (pos 5 *ℤ rd r) -ℤ rd (pos 3 *ℤ rd c)) (pos 5 *ℤ cube c -ℤ pos 3 *ℤ c) (5 * (E + 548) + 3 * (E + 182))
  whole = v- (at five (lit< tt)) (at (v* (lit 3) vc) (lit< tt))

pub overflow_mul-cube : goal.overflow_mul-cube
overflow_mul-cube c = fit (five c.args.self.body.c c.cube.result c.args.self.stood.c c.cube.ensures) (lit< tt)

pub overflow_sub-cube : goal.overflow_sub-cube
overflow_sub-cube c = fit (whole c.args.self.body.c c.cube.result c.args.self.stood.c c.cube.ensures) (lit< tt)

pub returns : goal.returns
unfolding height_three
returns c =
    (vnear 2 (4 * E + 1643) c.near.ensures (at (whole c.args.self.body.c c.cube.result c.args.self.stood.c c.cube.ensures) (lit< tt)) (lit≤ tt) (lit< tt)).told

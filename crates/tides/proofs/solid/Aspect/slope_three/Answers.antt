-- Each term is in its range.
use Rattle.std.proofs.Common.{◌≡◌, ◌+◌, ◌*◌, ◌≤◌, ℤ, pos, ◌*ℤ◌, ◌-ℤ◌, nat_abs}
use lib.Dec.{lit<, lit≤}
use Rattle.algebra.proofs.Machine.{rd, Va, lit, at, v-, v*, fit}
use Rattle.tides.specs.Direction.{E, times}
use Rattle.tides.specs.Tide.{slope_three}
use Rattle.tides.proofs.StepLaws.{vtimes, held}
use Rattle.numbers.proofs.NearSteps.{vnear}
use Rattle.tides.proofs.solid.Aspect.slope_three.Goals as goal

module _ (c r : ℤ) (h : nat_abs c ≤ E + 182) (e : r ≡ times (rd c) (rd c)) where
  fifteen : Va (pos 15 *ℤ rd r) (pos 15 *ℤ times c c) (15 * (E + 365))
  fifteen = v* (lit 15) (vtimes (E + 365) e (held c (E + 182) h (lit< tt)) (held c (E + 182) h (lit< tt)) (lit≤ tt) (lit< tt))

  whole : Va (rd (pos 15 *ℤ rd r) -ℤ pos 3221225472) (pos 15 *ℤ times c c -ℤ pos 3 *ℤ pos E) (15 * (E + 365) + 3 * E)
  whole = v- (at fifteen (lit< tt)) (lit (3 * E))

pub overflow_mul-times : goal.overflow_mul-times
overflow_mul-times c = fit (fifteen c.args.self.body.c c.times.result c.args.self.stood.c c.times.ensures) (lit< tt)

pub overflow_sub-times : goal.overflow_sub-times
overflow_sub-times c = fit (whole c.args.self.body.c c.times.result c.args.self.stood.c c.times.ensures) (lit< tt)

pub returns : goal.returns
unfolding slope_three
returns c =
    (vnear 2 (9 * E + 2738) c.near.ensures (at (whole c.args.self.body.c c.times.result c.args.self.stood.c c.times.ensures) (lit< tt)) (lit≤ tt) (lit< tt)).told

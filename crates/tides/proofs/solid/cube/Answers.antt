-- The square, then the cube.
use Rattle.std.proofs.Common.{◌≡◌, ◌≤◌, ℤ, nat_abs}
use lib.Dec.{lit<, lit≤}
use Rattle.algebra.proofs.Machine.{rd, Va, v*, fit}
use Rattle.tides.specs.Direction.{times}
use Rattle.tides.specs.Tide.{cube}
use Rattle.tides.proofs.StepLaws.{vtimes, held}
use Rattle.tides.proofs.solid.cube.Goals as goal

module _ (x r : ℤ) (h : nat_abs x ≤ 1181116007) (e : r ≡ times (rd x) (rd x)) where
  vx : Va (rd x) x 1181116007
  vx = held x 1181116007 h (lit< tt)

  square : Va (rd r) (times x x) 1299227609
  square = vtimes 1299227609 e vx vx (lit≤ tt) (lit< tt)

pub times-requires-2 : goal.times-requires-2
times-requires-2 c = fit (v* (square c.args.x c.times.result c.requires c.times.ensures) (vx c.args.x c.times.result c.requires c.times.ensures)) (lit< tt)

pub returns : goal.returns
unfolding cube
returns c =
    (vtimes 1429150371 c.times-2.ensures (square c.args.x c.times.result c.requires c.times.ensures) (vx c.args.x c.times.result c.requires c.times.ensures) (lit≤ tt) (lit< tt)).told

-- The sine squared, then P.
use Rattle.std.proofs.Common.{◌≡◌, ◌^◌, ℤ}
use lib.Dec.{lit<, lit≤}
use Rattle.algebra.proofs.Machine.{rd, Va}
use Rattle.mark.specs.declared.Vec3.{Vec3}
use Rattle.mark.specs.Ranges.{Within}
use Rattle.tides.specs.Direction.{E, times}
use Rattle.tides.specs.Permanent.{s2, latitude}
use Rattle.tides.proofs.StepLaws.{vtimes, vlegendre, held, size}
use Rattle.tides.proofs.direction.Direction.latitude.Goals as goal

square : (u : Vec3) (r : ℤ) → Within E u → r ≡ times (rd u.z) (rd u.z) → Va (rd r) (times u.z u.z) E
square u r w e = vtimes E e (held u.z E w.z (lit< tt)) (held u.z E w.z (lit< tt)) (lit≤ tt) (lit< tt)

pub legendre-requires : goal.legendre-requires
legendre-requires c = size (square c.args.self.u c.times.result c.args.self.short.each c.times.ensures) (lit≤ tt)

pub returns : goal.returns
unfolding latitude s2
returns c = (vlegendre (2 ^ 31) c.legendre.ensures (square c.args.self.u c.times.result c.args.self.short.each c.times.ensures) (lit≤ tt) (lit< tt)).told

-- Each product is at most E E.
use Rattle.std.proofs.Common.{◌+◌, ◌*◌, ◌≤◌, ℤ, nat_abs, ◌+ℤ◌, ◌*ℤ◌}
use lib.Dec.{lit<, lit≤}
use Rattle.algebra.proofs.Machine.{rd, Va, at, v+, v*, fit}
use Rattle.mark.specs.declared.Vec3.{Vec3}
use Rattle.mark.specs.Ranges.{Within}
use Rattle.tides.specs.Direction.{E}
use Rattle.tides.specs.Tide.{cosine}
use Rattle.tides.proofs.StepLaws.{held}
use Rattle.numbers.proofs.NearSteps.{vnear}
use Rattle.tides.proofs.solid.cosine.Goals as goal

product : (a b : ℤ) → nat_abs a ≤ E → nat_abs b ≤ E → Va (rd a *ℤ rd b) (a *ℤ b) (E * E)
product a b h k = v* (held a E h (lit< tt)) (held b E k (lit< tt))

module _ (u d : Vec3) (p : Within E u) (q : Within E d) where
  two : Va (rd (rd u.x *ℤ rd d.x) +ℤ rd (rd u.y *ℤ rd d.y)) (u.x *ℤ d.x +ℤ u.y *ℤ d.y) (E * E + E * E)
  two = v+ (at (product u.x d.x p.x q.x) (lit< tt)) (at (product u.y d.y p.y q.y) (lit< tt))

  three : Va (rd (rd (rd u.x *ℤ rd d.x) +ℤ rd (rd u.y *ℤ rd d.y)) +ℤ rd (rd u.z *ℤ rd d.z)) (u.x *ℤ d.x +ℤ u.y *ℤ d.y +ℤ u.z *ℤ d.z) (E * E + E * E + E * E)
  three = v+ (at two (lit< tt)) (at (product u.z d.z p.z q.z) (lit< tt))

pub overflow_add-u : goal.overflow_add-u
overflow_add-u c = fit (two c.args.aim.u c.args.d c.args.aim.short.each c.requires) (lit< tt)

pub overflow_mul-u-3 : goal.overflow_mul-u-3
overflow_mul-u-3 c = fit (product c.args.aim.u.z c.args.d.z c.args.aim.short.each.z c.requires.z) (lit< tt)

pub overflow_add-u-2 : goal.overflow_add-u-2
overflow_add-u-2 c = fit (three c.args.aim.u c.args.d c.args.aim.short.each c.requires) (lit< tt)

pub returns : goal.returns
unfolding cosine
returns c = (vnear E (3 * E) c.near.ensures (at (three c.args.aim.u c.args.d c.args.aim.short.each c.requires) (lit< tt)) (lit≤ tt) (lit< tt)).told

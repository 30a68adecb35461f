-- How a body in reach stands, how large each body's part is, and so the tide, of which each component stays under 1 m.
use mathlib.Core.Path.{◌≡◌, refl, ap}
use mathlib.Core.Bool.{true}
use Prim.Native.Nat.{ℕ, ◌*◌, ◌≤◌, ◌<◌}
use native.Mathlib.Omega.{arith}
use lib.Dec.{T, lit≤}
use lib.IntN.{nat_abs}
use Rattle.algebra.proofs.BoolLaws.{holds, passes}
use Rattle.std.specs.Prelude.{Err}
use Rattle.refusal.specs.declared.Refusal.{Refusal}
use Rattle.refusal.specs.Answered.{number_of, answered}
use Rattle.mark.specs.declared.Vec3.{Vec3}
use Rattle.mark.specs.Mark.{nowhere, between, length_of, marked}
use Rattle.mark.specs.Ranges.{Within}
use Rattle.mark.proofs.LengthLaws.{at_least}
use Rattle.mark.proofs.SizeLaws.{plus-small}
use Rattle.mark.proofs.MarkLaws.{mark-long}
use Rattle.tides.specs.declared.Body.{Body}
use Rattle.tides.specs.declared.BodyVector.{BodyVector}
use Rattle.tides.specs.Direction.{units}
use Rattle.tides.specs.Bodies.{Kind, moon, third_k0, sun, wholes, in_reach}
use Rattle.tides.specs.Tide.{standing, standing_at, degree_two, degree_three, moon_part, sun_part, tide_at, tide, tide_number, tide_answer}
use Rattle.tides.specs.Steps.{Direction, Stood}
use Rattle.tides.proofs.DirectionLaws.{direction-within, mark-direction, body-sum, cosine-bound}
use Rattle.tides.proofs.DegreeTwoLaws.{nearness-bound, moon-strength, sun-strength, degree-two-small}
use Rattle.tides.proofs.DegreeThreeLaws.{degree-three-small}

-- ---- how a body stands

pub stands : (r0 : ℕ) (u v : Vec3) (r : ℕ) → r0 * 10 ≤ 11 * r → Direction u → length_of v ≡ r → 146000000 ≤ r → Stood (standing r0 u v r)
unfolding standing
stands r0 u v r h hu e hr =
    record {
      q = nearness-bound r0 r 1181116007 (omega arith);
      d = direction-within r v e;
      c = cosine-bound u (units r v) hu (body-sum r v e hr);
    }

-- the Moon and the Sun, from their least distances on
pub moon-stands : (u v : Vec3) → Direction u → 350000000 ≤ length_of v → Stood (standing_at moon u v)
moon-stands u v hu h = stands 384400000 u v (length_of v) (omega arith) hu refl (omega arith)

pub sun-stands : (u v : Vec3) → Direction u → 146000000 ≤ length_of v → Stood (standing_at sun u v)
sun-stands u v hu h = stands 149597870 u v (length_of v) (omega arith) hu refl h

-- ---- the parts

pub moon-two-small : (u v : Vec3) → Direction u → 350000000 ≤ length_of v → Within 780000000 (degree_two moon.k0 u (standing_at moon u v))
unfolding standing
moon-two-small u v hu h =
    degree-two-small 523578453 693629844 780000000 u (standing_at moon u v) (moon-strength (length_of v) h) hu.each (moon-stands u v hu h) (lit≤ tt)

pub moon-three-small : (u v : Vec3) → Direction u → 350000000 ≤ length_of v → Within 18400000 (degree_three third_k0 u (standing_at moon u v))
moon-three-small u v hu h = degree-three-small u (standing_at moon u v) hu.each (moon-stands u v hu h)

pub moon-part-small : (u v : Vec3) → Direction u → 350000000 ≤ length_of v → Within 798400000 (moon_part u v)
unfolding moon_part
moon-part-small u v hu h = plus-small 780000000 18400000 _ _ (moon-two-small u v hu h) (moon-three-small u v hu h)

pub sun-part-small : (u v : Vec3) → Direction u → 146000000 ≤ length_of v → Within 300000000 (sun_part u v)
unfolding sun_part standing
sun-part-small u v hu h =
    degree-two-small 240449078 258666854 300000000 u (standing_at sun u v) (sun-strength (length_of v) h) hu.each (sun-stands u v hu h) (lit≤ tt)

-- a body in reach is no nearer than its least distance
pub reached : (k : Kind) (v : BodyVector) → T (in_reach k v) → k.low ≤ length_of (wholes v)
unfolding in_reach
reached k v t = at_least k.low k.high (length_of (wholes v)) (holds (between k.low k.high (length_of (wholes v))) t)

-- at the mark's unit vector
pub tide-at-small : (u : Vec3) (v w : BodyVector) → Direction u → T (in_reach moon v) → T (in_reach sun w) → Within 1098400000 (tide_at u v w)
unfolding tide_at
tide-at-small u v w hu hv hw =
    plus-small 798400000 300000000 _ _ (moon-part-small u (wholes v) hu (reached moon v hv)) (sun-part-small u (wholes w) hu (reached sun w hw))

-- under 1 m, which is 1,461,000,000 grains
pub record UnderMetre (v : Vec3) : Type 0 where
  pub x : nat_abs v.x < 1461000000
  pub y : nat_abs v.y < 1461000000
  pub z : nat_abs v.z < 1461000000

pub tide-small : (m : Vec3) (v w : BodyVector) → 6300000 ≤ length_of m → T (in_reach moon v) → T (in_reach sun w) → UnderMetre (tide m v w)
unfolding tide
tide-small m v w hm hv hw =
    let t = tide-at-small (units (length_of m) m) v w (mark-direction (length_of m) m refl hm) hv hw in
    record {
      x = omega (arith, t.x);
      y = omega (arith, t.y);
      z = omega (arith, t.z);
    }

pub tide-within : (m : Vec3) (v w : BodyVector) → marked m ≡ true → in_reach moon v ≡ true → in_reach sun w ≡ true → Within 1461000000 (tide m v w)
tide-within m v w e h k =
    let t = tide-small m v w (mark-long m e) (passes h) (passes k) in
    record {
      x = omega (arith, t.x);
      y = omega (arith, t.y);
      z = omega (arith, t.z);
    }

-- a refusal's number is the tide's
pub tide-refused : (m : Vec3) (a b : Body) (e : Refusal) → answered nowhere (Err e) ≡ tide_answer m a b → number_of e ≡ tide_number m a b
unfolding tide_answer
tide-refused m a b e h = ap (λ x. x.number) h

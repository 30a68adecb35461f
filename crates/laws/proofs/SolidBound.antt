-- The 100-grain bound of the solid tide: for every accepted mark and every Moon and Sun in reach it lies within 100 grains of (5) for both and (6) for
-- the Moon at the whole distances L and R, with the body vectors rounded to wholes.
--
-- One chain (BodyChain, TwoChain) serves both bodies, at any distance R that the whole one stands for: `body-chain`; ThreeChain adds the Moon's degree
-- three: `moon-chain`; `solid-at` is the sum of both. The theorem takes it at the whole distances.
use mathlib.Core.Path.{refl}
use Prim.Native.Nat.{ℕ, ◌+◌, ◌*◌, ◌≤◌, ◌<◌}
use native.Mathlib.Omega.{arith}
use lib.Dec.{T, lit<, lit≤}
use lib.IntN.{pos, nat_abs}
use Rattle.algebra.specs.Fraction.{Fraction, Positive, ◌≈◌, whole, ratio, wholly, ◌*ᶠ◌, ◌÷ᶠ◌}
use Rattle.algebra.proofs.Error.{Val, miss}
use Rattle.algebra.proofs.Rearranged.{cubes-same, fourths-same}
use Rattle.mark.specs.declared.Vec3.{Vec3}
use Rattle.mark.specs.Mark.{length_of, marked}
use Rattle.tides.specs.declared.BodyVector.{BodyVector}
use Rattle.tides.specs.Direction.{E, units}
use Rattle.tides.specs.Bodies.{Kind, moon, third_k0, sun, wholes, in_reach}
use Rattle.tides.specs.Tide.{nearness, strength, standing, standing_at, degree_two, moon_part, sun_part, tide_at, tide}
use Rattle.tides.specs.Steps.{Direction}
use Rattle.tides.proofs.DirectionLaws.{mark-direction, body-sum, cosine-bound}
use Rattle.tides.proofs.DegreeTwoLaws.{moon-strength, sun-strength}
use Rattle.tides.proofs.TideLaws.{reached as body-far}
use Rattle.laws.specs.Formulas.{bound, Vector, ◌+ᵛ◌, Close, Puller, metre, direction, Re, the_moon, the_sun, in_metres, strength_at, strength_three_at, pulled, pulled_three, solid_formula}
use Rattle.laws.proofs.Distances.{mark-far, mark-positive, moon-positive, sun-positive}
use Rattle.laws.proofs.StepErrors.{two_off, three_off, solid_off, whole-suffices}
use Rattle.laws.proofs.StepValues.{Stands, Quotients, whole-quotients, stands}
use Rattle.laws.proofs.BodyChain.{Metres, Placed, sum_is, close-is}
use Rattle.laws.proofs.TwoChain.{two_is}
use Rattle.laws.proofs.ThreeChain.{three-is}

-- ---- one body

-- what the chain takes of a kind of body. K0 stands for the exact K at R0, (GM ratio) Re⁴/R0³, and is off by at most half a grain: its own
-- rounding counts. The rest are sizes: q is at most 1,179,275,307, K at most 693,629,844 grains, the Moon's at its nearest
pub record Known (k : Kind) (b : Puller) : Type 0 where
  pub r0-pos : 0 < k.r0
  pub k0-is : Val metre (pos k.k0) (strength_at b.gm (in_metres b.unit (wholly k.r0 r0-pos))) 500 523578453
  pub far : 146000000 ≤ k.low
  pub nearest : k.r0 * E ≤ 1179275307 * k.low
  pub strongest : (l : ℕ) → k.low ≤ l → nat_abs (strength k.k0 (nearness k.r0 l)) ≤ 693629844

pub moon-known : Known moon the_moon
unfolding strength_at Re ratio wholly ◌*ᶠ◌ ◌÷ᶠ◌ miss
moon-known =
    record {
      r0-pos = lit< tt;
      k0-is = record { off = lit≤ tt; size = lit≤ tt };
      far = lit≤ tt;
      nearest = lit≤ tt;
      strongest = moon-strength;
    }

sun-least : (l : ℕ) → 146000000 ≤ l → nat_abs (strength 240449078 (nearness 149597870 l)) ≤ 693629844
sun-least l h = omega (arith, sun-strength l h)

pub sun-known : Known sun the_sun
unfolding strength_at Re ratio wholly ◌*ᶠ◌ ◌÷ᶠ◌ miss
sun-known =
    record {
      r0-pos = lit< tt;
      k0-is = record { off = lit≤ tt; size = lit≤ tt };
      far = lit≤ tt;
      nearest = lit≤ tt;
      strongest = sun-least;
    }

-- what the chain takes of a body at the distance R: its unit vector and R0/R, as they are rounded at the whole distance
pub record StandsFor (d q : ℕ) (k : Kind) (v : Vec3) (R : Positive) : Type 0 where
  pub towards : Stands d (units (length_of v) v) (direction v R)
  pub nearness-is : Val E (nearness k.r0 (length_of v)) (whole (pos k.r0) ÷ᶠ R) q 1179275307
  pub reached : k.low ≤ length_of v

-- K at the reference distance times (R0/R)³ is K at R
strength-same :
    (n r0 : ℕ) (p : 0 < r0) (R : Positive) (gm : Fraction)
    → strength_at gm (in_metres n (wholly r0 p)) *ᶠ (whole (pos r0) ÷ᶠ R *ᶠ (whole (pos r0) ÷ᶠ R) *ᶠ (whole (pos r0) ÷ᶠ R)) ≈ strength_at gm (in_metres n R)
unfolding strength_at
strength-same n r0 p R gm = cubes-same n r0 p R (gm *ᶠ (Re *ᶠ Re *ᶠ Re *ᶠ Re))

-- so the body is placed for both degrees
body-placed :
    {nu nd nq : ℕ} {k : Kind} {b : Puller} (known : Known k b) (u : Vec3) (r : Vector) (v : Vec3) (R : Positive)
    → Direction u
    → Stands nu u r
    → StandsFor nd nq k v R
    → Placed nu nd nq u (standing_at k u v) r (direction v R) (whole (pos k.r0) ÷ᶠ R)
unfolding standing
body-placed {k = k} known u r v R hu u-is stood =
    let l = length_of v in
    record {
      u-is = u-is;
      d-is = stood.towards;
      q-is = stood.nearness-is;
      c-here = refl;
      c-small = cosine-bound u (units l v) hu (body-sum l v refl (omega (arith, known.far, stood.reached)));
    }

pub body-chain :
    {nu nd nq : ℕ} {k : Kind} {b : Puller} (known : Known k b) (u : Vec3) (r : Vector) (v : Vec3) (R : Positive)
    → Direction u
    → Stands nu u r
    → StandsFor nd nq k v R
    → Metres (two_off nu nd nq) 780000000 (degree_two k.k0 u (standing_at k u v)) (pulled b r v R)
unfolding standing
body-chain {k = k} {b} known u r v R hu u-is stood =
    two_is (body-placed known u r v R hu u-is stood) k.k0
    (strength_at b.gm (in_metres b.unit (wholly k.r0 known.r0-pos)))
    (strength_at b.gm (in_metres b.unit R))
    known.k0-is
    (strength-same b.unit k.r0 known.r0-pos R b.gm)
    (known.strongest (length_of v) stood.reached)

-- ---- the Moon's degree three

-- K0₃ stands for the exact K3 at R0, (Moon ratio) Re⁵/R0⁴, and is off by at most half a grain
third-known : Val metre (pos third_k0) (strength_three_at the_moon.gm (in_metres 1 (wholly 384400000 (lit< tt)))) 500 8687448
unfolding strength_three_at Re ratio wholly ◌*ᶠ◌ ◌÷ᶠ◌ miss
third-known = record { off = lit≤ tt; size = lit≤ tt }

-- K3 at the reference distance times (R0/R)⁴ is K3 at R
third-strength-same :
    (n r0 : ℕ) (p : 0 < r0) (R : Positive) (gm : Fraction)
    → strength_three_at gm (in_metres n (wholly r0 p)) *ᶠ (whole (pos r0) ÷ᶠ R *ᶠ (whole (pos r0) ÷ᶠ R) *ᶠ (whole (pos r0) ÷ᶠ R) *ᶠ (whole (pos r0) ÷ᶠ R))
    ≈ strength_three_at gm (in_metres n R)
unfolding strength_three_at
third-strength-same n r0 p R gm = fourths-same n r0 p R (gm *ᶠ (Re *ᶠ Re *ᶠ Re *ᶠ Re *ᶠ Re))

pub moon-chain :
    {nu nd nq : ℕ} (u : Vec3) (r : Vector) (v : Vec3) (R : Positive)
    → Direction u
    → Stands nu u r
    → StandsFor nd nq moon v R
    → Metres (two_off nu nd nq + three_off nu nd nq) (780000000 + 18400000) (moon_part u v) (pulled the_moon r v R +ᵛ pulled_three the_moon r v R)
unfolding moon_part
moon-chain u r v R hu u-is stood =
    sum_is (body-chain moon-known u r v R hu u-is stood)
    (three-is (body-placed moon-known u r v R hu u-is stood)
    (strength_three_at the_moon.gm (in_metres 1 (wholly 384400000 (lit< tt))))
    (strength_three_at the_moon.gm (in_metres 1 R))
    third-known
    (third-strength-same 1 384400000 (lit< tt) R the_moon.gm))

-- ---- at distances L, R and S, each in its own unit, that the whole ones stand for

-- a body in reach, by its quotients: d of its unit vector, q of R0/R
pub body-stands :
    {d q : ℕ} {k : Kind} {b : Puller} (known : Known k b) (v : BodyVector) (R : Positive)
    → T (in_reach k v)
    → Quotients d E (length_of (wholes v)) R
    → Quotients q 1179275307 (length_of (wholes v)) R
    → StandsFor d q k (wholes v) R
unfolding nearness
body-stands {k = k} known v R t towards nearer =
    let h = body-far k v t in
    record {
      towards = stands (wholes v) R towards;
      nearness-is = nearer (pos k.r0) (omega (arith, known.nearest, h));
      reached = h;
    }

pub solid-at :
    {nu nd nq md mq : ℕ} (m : Vec3) (v w : BodyVector) (L R S : Positive) (g : ℕ)
    → T (marked m)
    → Quotients nu E (length_of m) L
    → StandsFor nd nq moon (wholes v) R
    → StandsFor md mq sun (wholes w) S
    → solid_off nu nd nq md mq ≤ 1000 * g
    → Close g (tide m v w) (solid_formula m L (wholes v) R (wholes w) S)
unfolding tide tide_at sun_part solid_off
solid-at m v w L R S g t quotients moons suns enough =
    let u = units (length_of m) m in
    let hu = mark-direction (length_of m) m refl (mark-far m t) in
    let u-is = stands m L quotients in
    close-is
    (sum_is (moon-chain u (direction m L) (wholes v) R hu u-is moons) (body-chain sun-known u (direction m L) (wholes w) S hu u-is suns))
    enough

-- ---- the whole ones themselves

whole-stands : {k : Kind} {b : Puller} (known : Known k b) (v : BodyVector) (p : 0 < length_of (wholes v)) → T (in_reach k v) → StandsFor 500 500 k (wholes v) (wholly (length_of (wholes v)) p)
whole-stands known v p t =
    let l = length_of (wholes v) in
    body-stands known v (wholly l p) t (whole-quotients E l p) (whole-quotients 1179275307 l p)

pub solid-within :
    (m : Vec3) (v w : BodyVector) (t : T (marked m)) (a : T (in_reach moon v)) (b : T (in_reach sun w))
    → Close bound (tide m v w)
    (solid_formula m (wholly (length_of m) (mark-positive m t))
    (wholes v) (wholly (length_of (wholes v)) (moon-positive v a))
    (wholes w) (wholly (length_of (wholes w)) (sun-positive w b)))
solid-within m v w t a b =
    solid-at m v w
    (wholly (length_of m) (mark-positive m t))
    (wholly (length_of (wholes v)) (moon-positive v a))
    (wholly (length_of (wholes w)) (sun-positive w b))
    bound
    t
    (whole-quotients E (length_of m) (mark-positive m t))
    (whole-stands moon-known v (moon-positive v a) a)
    (whole-stands sun-known w (sun-positive w b) b)
    whole-suffices.solid

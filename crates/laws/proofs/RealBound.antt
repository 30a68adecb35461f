-- Both tides against the real distances: within 2,922 grains (2 micrometres) of the formulas at every choice of fractions, each from its whole distance up
-- to, but not including, one more. The chains are those of the 100-grain bounds, run from other starts.
use Prim.Native.Nat.{ℕ, ◌+◌, ◌*◌, ◌≤◌, ◌<◌}
use native.Mathlib.Nat.{le_trans, mul-le-mul_left}
use native.Mathlib.Omega.{arith}
use lib.Dec.{T, lit≤}
use Rattle.algebra.specs.Fraction.{Positive}
use Rattle.mark.specs.declared.Vec3.{Vec3}
use Rattle.mark.specs.Mark.{length_of, marked}
use Rattle.tides.specs.declared.BodyVector.{BodyVector}
use Rattle.tides.specs.Direction.{E}
use Rattle.tides.specs.Bodies.{Kind, moon, sun, wholes, in_reach}
use Rattle.tides.specs.Permanent.{permanent}
use Rattle.tides.specs.Tide.{tide}
use Rattle.tides.proofs.TideLaws.{reached as body-far}
use Rattle.laws.specs.Formulas.{Close, Puller, permanent_formula, solid_formula}
use Rattle.laws.specs.RealDistances.{real_bound, From}
use Rattle.laws.proofs.Distances.{mark-far, mark-positive}
use Rattle.laws.proofs.StepErrors.{real-suffices}
use Rattle.laws.proofs.StepValues.{Quotients, real-quotients}
use Rattle.laws.proofs.PermanentBound.{permanent-at}
use Rattle.laws.proofs.SolidBound.{Known, StandsFor, moon-known, sun-known, body-stands, solid-at}

-- the mark's unit vector: 1000 E/6,300,000 is less than 170,436
mark-quotients : (m : Vec3) (L : Positive) → T (marked m) → From (length_of m) L → Quotients 170936 E (length_of m) L
mark-quotients m L t f = real-quotients E 170436 (length_of m) L (mark-positive m t) f (omega (arith, mark-far m t))

pub permanent-real : (m : Vec3) (L : Positive) → T (marked m) → From (length_of m) L → Close real_bound (permanent m) (permanent_formula m L)
permanent-real m L t f =
    permanent-at m L real_bound (mark-quotients m L t f) real-suffices.across real-suffices.along

-- a body, at least `low` away: c and e are 1000 E/low and 1000 x 1,179,275,307/low, rounded up
body-real :
    {k : Kind} {b : Puller} (known : Known k b) (c e : ℕ) (v : BodyVector) (R : Positive)
    → 1000 * E ≤ c * k.low
    → 1000 * 1179275307 ≤ e * k.low
    → T (in_reach k v)
    → From (length_of (wholes v)) R
    → StandsFor (500 + c) (500 + e) k (wholes v) R
body-real {k} known c e v R hc he t f =
    let l = length_of (wholes v) in
    let h = body-far k v t in
    let p : 0 < l = omega (arith, known.far, h) in
    body-stands known v R t
    (real-quotients E c l R p f (le_trans hc (mul-le-mul_left c h)))
    (real-quotients 1179275307 e l R p f (le_trans he (mul-le-mul_left e h)))

pub solid-real :
    (m : Vec3) (v w : BodyVector) (L R S : Positive)
    → T (marked m)
    → T (in_reach moon v)
    → T (in_reach sun w)
    → From (length_of m) L
    → From (length_of (wholes v)) R
    → From (length_of (wholes w)) S
    → Close real_bound (tide m v w) (solid_formula m L (wholes v) R (wholes w) S)
solid-real m v w L R S t a b l r s =
    solid-at m v w L R S real_bound t (mark-quotients m L t l)
    (body-real moon-known 3068 3370 v R (lit≤ tt) (lit≤ tt) a r)
    (body-real sun-known 7355 8078 w S (lit≤ tt) (lit≤ tt) b s)
    real-suffices.solid

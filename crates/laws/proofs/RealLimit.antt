-- The bounds at the real distances themselves, which need not be fractions: the formula's value there is the limit of its values at fractions that come as near
-- as is wanted, and the tide lies within 2,922 grains of each of these.
use Prim.Native.Nat.{ℕ, ◌+◌, ◌*◌, ◌≤◌, ◌<◌}
use native.Mathlib.Nat.{le_trans, mul-le-mul_right}
use native.Mathlib.Omega.{arith}
use lib.Dec.{T}
use Rattle.algebra.specs.Fraction.{Fraction, Positive}
use Rattle.mark.specs.declared.Vec3.{Vec3}
use Rattle.mark.specs.Mark.{length_of, marked}
use Rattle.tides.specs.declared.BodyVector.{BodyVector}
use Rattle.tides.specs.Bodies.{moon, sun, wholes, in_reach}
use Rattle.tides.specs.Permanent.{permanent}
use Rattle.tides.specs.Tide.{tide}
use Rattle.laws.specs.Formulas.{Vector, permanent_formula, solid_formula}
use Rattle.laws.specs.RealDistances.{real_bound, Nearly, Choice, Chosen, Apart, ApartEach, CloseToLimit}
use Rattle.laws.proofs.Distances.{mark-positive, moon-positive, sun-positive}
use Rattle.laws.proofs.RealBound.{permanent-real, solid-real}
use Rattle.laws.proofs.RealRoots.{nearly, nearly-nearer, nearly-apart}
use Rattle.laws.proofs.SteadyLaws.{Lasting}
use Rattle.laws.proofs.FormulaSteady.{SteadyEach, permanent-steady, solid-steady}

-- ---- a steady vector settles

wider : {k c : ℕ} {X Y : Fraction} (d : ℕ) → Apart k c X Y → c ≤ d → Apart k d X Y
wider {X = X} {Y} d h l = record { off = le_trans h.off (mul-le-mul_right (X.den * Y.den) l) }

module _ {A : Type 0} {near : ℕ → A → Type 0} {f : A → Vector} (steady : SteadyEach near f) where
  steepest : ℕ
  steepest = steady.x.slope + steady.y.slope + steady.z.slope

  each_settles : (k : ℕ) (p q : A) → near k p → near k q → ApartEach k steepest (f p) (f q)
  unfolding steepest
  each_settles k p q h l =
      record {
        x = wider steepest (steady.x.follows k p q h l) (omega arith);
        y = wider steepest (steady.y.follows k p q h l) (omega arith);
        z = wider steepest (steady.z.follows k p q h l) (omega arith);
      }

-- ---- a real distance of at least 1 lasts

long : (v : Vec3) (k : ℕ) (D : Positive) → 0 < length_of v → Nearly k v D → D.bottom ≤ D.top
long v k D p h = le_trans (omega (arith, mul-le-mul_right D.bottom p)) h.from.least

module _ {A : Type 0} {near : ℕ → A → Type 0} {D : A → Positive} (v : Vec3) (p : 0 < length_of v) (real : (k : ℕ) (a : A) → near k a → Nearly k v (D a)) where
  lasts : Lasting near 1 D
  lasts =
      record {
        one = λ (k : ℕ) (a : A) (h : near k a). long v k (D a) p (real k a h);
        follows = λ (k : ℕ) (a b : A) (h : near k a) (l : near k b). nearly-apart v k (D a) (D b) (real k a h) (real k b l);
      }

-- ---- the permanent shift

pub permanent-limit :
    (m : Vec3) → T (marked m) → CloseToLimit (λ (k : ℕ) (L : Positive). Nearly k m L) real_bound (permanent m) (λ (L : Positive). permanent_formula m L)
permanent-limit m t =
    let p = mark-positive m t in
    let steady = permanent-steady m (lasts m p (λ (k : ℕ) (L : Positive) (h : Nearly k m L). h)) in
    record {
      some = λ (k : ℕ) (q : 0 < k). nearly m k q p;
      nearer = λ (j k : ℕ) (L : Positive) (q : k ≤ j) (h : Nearly j m L). nearly-nearer m L j k q h;
      slope = steepest steady;
      settles = each_settles steady;
      close = λ (k : ℕ) (L : Positive) (h : Nearly k m L). permanent-real m L t h.from;
    }

-- ---- the solid tide

module _ (m : Vec3) (v w : BodyVector) (t : T (marked m)) (a : T (in_reach moon v)) (b : T (in_reach sun w)) where
  abbrev near : ℕ → Choice → Type 0
  near k p = Chosen k m (wholes v) (wholes w) p

  abbrev formula : Choice → Vector
  formula p = solid_formula m p.mark (wholes v) p.moon (wholes w) p.sun

  steady : SteadyEach near formula
  steady =
      solid-steady m (wholes v) (wholes w)
      (lasts m (mark-positive m t) (λ (k : ℕ) (p : Choice) (h : near k p). h.mark))
      (lasts (wholes v) (moon-positive v a) (λ (k : ℕ) (p : Choice) (h : near k p). h.moon))
      (lasts (wholes w) (sun-positive w b) (λ (k : ℕ) (p : Choice) (h : near k p). h.sun))

  chosen : (k : ℕ) → 0 < k → (p : Choice) × near k p
  chosen k q =
      let L = nearly m k q (mark-positive m t) in
      let R = nearly (wholes v) k q (moon-positive v a) in
      let S = nearly (wholes w) k q (sun-positive w b) in
      (record { mark = L.0; moon = R.0; sun = S.0 }, record { mark = L.1; moon = R.1; sun = S.1 })

  chosen-nearer : (j k : ℕ) (p : Choice) → k ≤ j → near j p → near k p
  chosen-nearer j k p q h =
      record {
        mark = nearly-nearer m p.mark j k q h.mark;
        moon = nearly-nearer (wholes v) p.moon j k q h.moon;
        sun = nearly-nearer (wholes w) p.sun j k q h.sun;
      }

pub solid-limit :
    (m : Vec3) (v w : BodyVector)
    → T (marked m)
    → T (in_reach moon v)
    → T (in_reach sun w)
    → CloseToLimit (λ (k : ℕ) (p : Choice). Chosen k m (wholes v) (wholes w) p) real_bound (tide m v w)
    (λ (p : Choice). solid_formula m p.mark (wholes v) p.moon (wholes w) p.sun)
solid-limit m v w t a b =
    record {
      some = chosen m v w t a b;
      nearer = chosen-nearer m v w t a b;
      slope = steepest (steady m v w t a b);
      settles = each_settles (steady m v w t a b);
      close =
          λ (k : ℕ) (p : Choice) (h : Chosen k m (wholes v) (wholes w) p).
          solid-real m v w p.mark p.moon p.sun t a b h.mark.from h.moon.from h.sun.from;
    }

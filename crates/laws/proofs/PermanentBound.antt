-- The 100-grain bound of the permanent shift: for every accepted mark it lies within 100 grains of (14a) and (14b) at the whole distance L.
--
-- The chain is over any unit vector that stands for an exact one, off by n/1000. A grain count stands for metres at the scale
-- `metre`: 146,100 for 0.0001 m, 176,196,600 for 0.1206 m, 36,817,200 for 0.0252 m.
use mathlib.Core.Path.{◌≡◌}
use Prim.Native.Nat.{ℕ, ◌+◌, ◌*◌, ◌≤◌}
use native.Mathlib.Omega.{arith}
use lib.Dec.{T, lit≤}
use lib.IntN.{ℤ, pos, neg_ℤ, ◌+ℤ◌, ◌-ℤ◌, ◌*ℤ◌}
use Rattle.algebra.specs.Fraction.{Fraction, Positive, whole, ratio, wholly, ◌+ᶠ◌, ◌-ᶠ◌, ◌*ᶠ◌, ◌·ᶠ◌}
use Rattle.algebra.proofs.Difference.{split, ℤ⊖}
use Rattle.algebra.proofs.Error.{Val, miss, times_v, plus_v, minus_v, is_v, same_v, wide_v}
use Rattle.algebra.proofs.Rearranged.{across-same, along-same}
use Rattle.mark.specs.declared.Vec3.{Vec3}
use Rattle.mark.specs.Mark.{length_of, marked}
use Rattle.tides.specs.Direction.{E, units, legendre}
use Rattle.tides.specs.Permanent.{s2, latitude, small, radial, north, down, across, along, permanent_of, permanent}
use Rattle.laws.specs.Formulas.{bound, Vector, Close, metre, direction, P2, permanent_at, permanent_formula}
use Rattle.laws.proofs.Distances.{mark-positive}
use Rattle.laws.proofs.StepErrors.{square_off, height_off, small_off, radial_off, down_off, across_off, along_off, whole-suffices}
use Rattle.laws.proofs.StepValues.{Stands, times-is, square-is, latitude-is, grains-is, Quotients, whole-quotients, stands}
use Rattle.laws.specs.Formulas as Exact

-- ---- the paper's constants

slope-is : Val metre (pos 146100) (ratio (pos 1) 10000) 0 146100
unfolding ratio miss
slope-is = record { off = lit≤ tt; size = lit≤ tt }

radial-is : Val metre (neg_ℤ (pos 176196600)) (ratio (neg_ℤ (pos 1206)) 10000) 0 176196600
unfolding ratio miss
radial-is = record { off = lit≤ tt; size = lit≤ tt }

north-is : Val metre (neg_ℤ (pos 36817200)) (ratio (neg_ℤ (pos 252)) 10000) 0 36817200
unfolding ratio miss
north-is = record { off = lit≤ tt; size = lit≤ tt }

lower : (a b : ℤ) → neg_ℤ a +ℤ b ≡ b -ℤ a
lower a b = rw (split a, split b) (simp ℤ⊖ (omega arith))

-- ---- the chain

module _ {n : ℕ} (u : Vec3) (r : Vector) (u-is : Stands n u r) where
  abbrev S : ℤ
  S = s2 u.z

  abbrev p : ℤ
  p = legendre S

  abbrev P : Fraction
  P = P2 r.z

  z-is : Val E u.z r.z n (E + 182)
  z-is = wide_v u-is.z (lit≤ tt)

  s2-is : Val E S (r.z *ᶠ r.z) (square_off n) (E + 365)
  unfolding s2
  s2-is = square-is u.z r.z z-is

  P-is : Val E p P (height_off n) (E + 548)
  unfolding latitude
  P-is = latitude-is u-is

  e-is : Val metre (small p) (ratio (pos 1) 10000 *ᶠ P) (small_off n) 146101
  unfolding small small_off
  e-is = times-is slope-is P-is (lit≤ tt)

  A-is : Val metre (radial (small p) p) (Exact.radial P) (radial_off n) 176400000
  unfolding radial Exact.radial radial_off
  A-is = times-is (is_v (lower (pos 176196600) (small p)) (plus_v radial-is e-is)) P-is (lit≤ tt)

  T-is : Val metre (north (small p)) (Exact.north P) (0 + small_off n) 36963301
  unfolding north Exact.north
  T-is = minus_v north-is e-is

  w-is : Val metre (down (north (small p)) S) (Exact.north P *ᶠ (r.z *ᶠ r.z)) (down_off n) 36970000
  unfolding down down_off
  w-is = times-is T-is s2-is (lit≤ tt)

  abbrev a : ℤ
  a = radial (small p) p

  abbrev w : ℤ
  w = down (north (small p)) S

  flat-is : Val metre (a -ℤ pos 2 *ℤ w) (Exact.radial P -ᶠ pos 2 ·ᶠ (Exact.north P *ᶠ (r.z *ᶠ r.z))) (radial_off n + 2 * down_off n) 260000000
  flat-is = wide_v (minus_v A-is (times_v (pos 2) w-is)) (lit≤ tt)

  -- x and y, from u and its exact component
  across-is :
      (v : ℤ) (X : Fraction)
      → Val E v X n E
      → Val metre (across a w v) (Exact.radial P *ᶠ X +ᶠ Exact.north P *ᶠ ((pos 2 ·ᶠ r.z) *ᶠ (whole (pos 0) -ᶠ r.z *ᶠ X))) (across_off n) 260000001
  unfolding across across_off
  across-is v X v-is =
      same_v (across-same (Exact.radial P) (Exact.north P) r.z X)
      (times-is flat-is v-is (lit≤ tt))

  along-is : Val metre (along a (north (small p)) w u.z) (permanent_at r).z (along_off n) 340000001
  unfolding along along_off
  along-is =
      same_v (along-same (Exact.radial P) (Exact.north P) r.z)
      (times-is
      (wide_v (minus_v (plus_v A-is (times_v (pos 2) T-is)) (times_v (pos 2) w-is)) (lit≤ {n = 340000000} tt))
      u-is.z
      (lit≤ tt))

  -- the shift from u lies within g grains of the formula at r̂
  pub permanent-chain : (g : ℕ) → across_off n ≤ 1000 * g → along_off n ≤ 1000 * g → Close g (permanent_of u) (Exact.grains (permanent_at r))
  unfolding permanent_of latitude
  permanent-chain g hx hz =
      record {
        x = grains-is g (across-is u.x r.x u-is.x) hx;
        y = grains-is g (across-is u.y r.y u-is.y) hx;
        z = grains-is g along-is hz;
      }

-- ---- at a distance L, metres, that the whole one stands for

pub permanent-at :
    {n : ℕ} (m : Vec3) (L : Positive) (g : ℕ)
    → Quotients n E (length_of m) L → across_off n ≤ 1000 * g → along_off n ≤ 1000 * g → Close g (permanent m) (permanent_formula m L)
unfolding permanent
permanent-at m L g quotients = permanent-chain (units (length_of m) m) (direction m L) (stands m L quotients) g

-- the whole one itself
pub permanent-within : (m : Vec3) (t : T (marked m)) → Close bound (permanent m) (permanent_formula m (wholly (length_of m) (mark-positive m t)))
permanent-within m t =
    permanent-at m (wholly (length_of m) (mark-positive m t)) bound (whole-quotients E (length_of m) (mark-positive m t))
    whole-suffices.across
    whole-suffices.along

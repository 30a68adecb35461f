-- What the shared steps of both chains stand for: unit vectors, near(x y/E), P, and whole numbers of grains for metres.
use mathlib.Core.Path.{subst}
use Prim.Native.Nat.{ℕ, ◌+◌, ◌*◌, ◌/◌, ◌≤◌, ◌<◌}
use native.Mathlib.Nat.{mul_comm, mul-le-mul_right}
use native.Mathlib.Omega.{arith}
use lib.Dec.{lit<, lit≤}
use lib.IntN.{ℤ, pos, nat_abs, ◌-ℤ◌, ◌*ℤ◌}
use Rattle.algebra.specs.Fraction.{Fraction, Positive, Within, whole, wholly, ◌*ᶠ◌, ◌·ᶠ◌, ◌÷ᶠ◌}
use Rattle.algebra.specs.Rounding.{Half}
use Rattle.algebra.proofs.Error.{Val, miss, const_v, quotient_v, true_v, near_v, mul_v, times_v, over_v, minus_v, wide_v, bound_v}
use Rattle.numbers.specs.Near.{near}
use Rattle.numbers.proofs.NearLaws.{near-half}
use Rattle.mark.specs.declared.Vec3.{Vec3}
use Rattle.mark.specs.Mark.{length_of}
use Rattle.mark.proofs.LengthLaws.{within-length}
use Rattle.tides.specs.Direction.{E, times, unit, units, legendre}
use Rattle.tides.specs.Permanent.{s2, latitude}
use Rattle.tides.specs.Tide.{height}
use Rattle.tides.proofs.DegreeTwoLaws.{square-bound, height_bound}
use Rattle.laws.specs.Formulas.{Vector, direction, metre, P2}
use Rattle.laws.specs.RealDistances.{From}
use Rattle.laws.proofs.StepErrors.{product, rounded, square_off, height_off}

-- ---- one rounding

pub times-half : (x y : ℤ) → Half (x *ℤ y) E (times x y)
unfolding times
times-half x y = near-half (x *ℤ y) E (lit< tt)

-- near(x y/E), for any scale of x
pub times-is :
    {s : ℕ} {x y : ℤ} {X Y : Fraction} {e a f b n : ℕ}
    → Val s x X e a → Val E y Y f b → a * b / E + 1 ≤ n → Val s (times x y) (X *ᶠ Y) (rounded (product e a f b) E) n
times-is {x = x} {y} v w size = wide_v (near_v (times-half x y) (lit< tt) (mul_v v w)) size

-- near(x k/d), where x stands for a number of the formulas at the scale d, and k for grains
pub share-is :
    {d : ℕ} {x k : ℤ} {X K : Fraction} {f a e b n : ℕ}
    → Val d x X f a → Val metre k K e b → 0 < d → a * b / d + 1 ≤ n → Val metre (near (x *ℤ k) d) (X *ᶠ K) (rounded (product f a e b) d) n
share-is {d} {x} {k} {X} {K} {f} {a} {e} {b} v w p size =
    wide_v (near_v (near-half (x *ℤ k) d p) p (subst (λ (s : ℕ). Val s (x *ℤ k) (X *ᶠ K) (product f a e b) (a * b)) (mul_comm d metre) (mul_v v w))) size

legendre-half : (s : ℤ) → Half (pos 3 *ℤ s -ℤ pos E) 2 (legendre s)
unfolding legendre
legendre-half s = near-half (pos 3 *ℤ s -ℤ pos E) 2 (lit< tt)

-- ---- quotients by a distance

-- near(m E/l), by the whole distance l, stands for m/D, off by at most e/1000, where it is at most b
abbrev pub Quotients : ℕ → ℕ → ℕ → Positive → Type 0
Quotients e b l D = (m : ℤ) → nat_abs m * E ≤ b * l → Val E (near (m *ℤ pos E) l) (whole m ÷ᶠ D) e b

-- at the whole distance itself it is off by a half
pub whole-quotients : (b l : ℕ) (p : 0 < l) → Quotients 500 b l (wholly l p)
whole-quotients b l p m h = quotient_v E l m p (near-half (m *ℤ pos E) l p) h

-- at a distance from l up to l + 1, by c/1000 more, where l is at least 1000 b/c
pub real-quotients : (b c l : ℕ) (D : Positive) → 0 < l → From l D → 1000 * b ≤ c * l → Quotients (500 + c) b l D
real-quotients b c l D p f far m h =
    true_v E l c m D p f.least (omega (arith, f.less)) far (near-half (m *ℤ pos E) l p) h

-- ---- unit vectors

-- each component of u stands for E times that of the exact unit vector, off by at most e/1000
pub record Stands (e : ℕ) (u : Vec3) (r : Vector) : Type 0 where
  pub x : Val E u.x r.x e E
  pub y : Val E u.y r.y e E
  pub z : Val E u.z r.z e E

-- by the quotients of its components, none of which is greater than the whole length
pub stands : {e : ℕ} (v : Vec3) (D : Positive) → Quotients e E (length_of v) D → Stands e (units (length_of v) v) (direction v D)
unfolding unit
stands v D quotients =
    let h = within-length v in
    record {
      x = quotients v.x (omega (arith, h.x));
      y = quotients v.y (omega (arith, h.y));
      z = quotients v.z (omega (arith, h.z));
    }

-- ---- s2 and P, of the mark's sine and of a body's cosine

module _ {s : ℕ} (c : ℤ) (X : Fraction) (c-is : Val E c X s (E + 182)) where
  pub square-is : Val E (times c c) (X *ᶠ X) (square_off s) (E + 365)
  unfolding square_off
  square-is = wide_v (bound_v (near_v (times-half c c) (lit< tt) (mul_v c-is c-is)) (square-bound c c-is.size)) (lit≤ tt)

  pub height-is : Val E (height c) (P2 X) (height_off s) (E + 548)
  unfolding P2 height height_off
  height-is =
      wide_v
      (bound_v
      (near_v (legendre-half (times c c)) (lit< tt)
      (over_v 2 (lit< tt) (minus_v (times_v (pos 3) square-is) (const_v E (pos 1)))))
      (height_bound c c-is.size))
      (lit≤ tt)

-- P of the mark, from its sine
pub latitude-is : {n : ℕ} {u : Vec3} {r : Vector} → Stands n u r → Val E (latitude u) (P2 r.z) (height_off n) (E + 548)
unfolding latitude s2 height
latitude-is {u = u} {r} u-is = height-is u.z r.z (wide_v u-is.z (lit≤ tt))

-- ---- grains for metres

-- what stands for metres at the scale of a grain is a number of grains
pub grains-is : {x : ℤ} {X : Fraction} {e b : ℕ} (g : ℕ) → Val metre x X e b → e ≤ 1000 * g → Within g x (pos metre ·ᶠ X)
unfolding ◌·ᶠ◌ miss
grains-is {x} {X} {e} g v h = record { off = omega (arith, v.off, mul-le-mul_right X.den h) }

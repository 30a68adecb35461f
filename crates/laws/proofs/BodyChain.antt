-- What the steps of the solid tide stand for that both degrees share: how a body stands to the mark, and a displacement.
--
-- u and d stand for the exact unit vectors r̂ and R̂, q for R0/R, all at the scale E; rho, t and a displacement stand for metres at the scale of a grain.
use mathlib.Core.Path.{◌≡◌}
use Prim.Native.Nat.{ℕ, ◌+◌, ◌*◌, ◌/◌, ◌≤◌}
use lib.Dec.{lit<, lit≤}
use lib.IntN.{ℤ, nat_abs, ◌+ℤ◌, ◌-ℤ◌, ◌*ℤ◌}
use Rattle.algebra.specs.Fraction.{Fraction, ◌≈◌, ◌+ᶠ◌, ◌-ᶠ◌, ◌*ᶠ◌}
use Rattle.algebra.proofs.Error.{Val, near_v, mul_v, plus_v, minus_v, bound_v, is_v, same_v, wide_v}
use Rattle.numbers.proofs.NearLaws.{near-half}
use Rattle.mark.specs.declared.Vec3.{Vec3}
use Rattle.mark.specs.Mark.{plus}
use Rattle.tides.specs.declared.solid.Standing.{Standing}
use Rattle.tides.specs.Direction.{E, times}
use Rattle.tides.specs.Tide.{cube, cosine, component, displaced}
use Rattle.laws.specs.Formulas.{Vector, ◌+ᵛ◌, ◌-ᵛ◌, ◌*ᵛ◌, Close, metre, grains, dot}
use Rattle.laws.proofs.StepErrors.{q2_off, q3_off, cosine_off, part_off, displaced_off}
use Rattle.laws.proofs.StepValues.{Stands, times-is, grains-is}

-- ---- vectors of grains for metres

-- each component of v stands for metres, off by at most e/1000 of a grain, and is at most n
pub record Metres (e n : ℕ) (v : Vec3) (w : Vector) : Type 0 where
  pub x : Val metre v.x w.x e n
  pub y : Val metre v.y w.y e n
  pub z : Val metre v.z w.z e n

pub sum_is : {e f n m : ℕ} {v w : Vec3} {X Y : Vector} → Metres e n v X → Metres f m w Y → Metres (e + f) (n + m) (plus v w) (X +ᵛ Y)
unfolding plus
sum_is a b = record { x = plus_v a.x b.x; y = plus_v a.y b.y; z = plus_v a.z b.z }

pub close-is : {e n g : ℕ} {v : Vec3} {X : Vector} → Metres e n v X → e ≤ 1000 * g → Close g v (grains X)
close-is {g = g} a h = record { x = grains-is g a.x h; y = grains-is g a.y h; z = grains-is g a.z h }

-- the same of a vector of fractions of the same values
pub same-is :
    {e n : ℕ} {v : Vec3} {X Y : Vector} → X.x ≈ Y.x → X.y ≈ Y.y → X.z ≈ Y.z → Metres e n v X → Metres e n v Y
same-is p q r a = record { x = same_v p a.x; y = same_v q a.y; z = same_v r a.z }

-- ---- how a body stands

-- the mark's unit vector u, and the body's q, d and c, with the errors of u, d and q
pub record Placed (nu nd nq : ℕ) (u : Vec3) (b : Standing) (r R : Vector) (Q : Fraction) : Type 0 where
  pub u-is : Stands nu u r
  pub d-is : Stands nd b.d R
  pub q-is : Val E b.q Q nq 1179275307
  pub c-here : cosine u b.d ≡ b.c
  pub c-small : nat_abs b.c ≤ E + 182

module _
    {nu nd nq : ℕ} {u : Vec3} {b : Standing} {r R : Vector} {Q : Fraction}
    (placed : Placed nu nd nq u b r R Q) where
  abbrev C : Fraction
  C = dot r R

  q2-is : Val E (times b.q b.q) (Q *ᶠ Q) (q2_off nq) 1295181225
  unfolding q2_off
  q2-is = times-is placed.q-is placed.q-is (lit≤ tt)

  pub q3-is : Val E (cube b.q) (Q *ᶠ Q *ᶠ Q) (q3_off nq) 1422479040
  unfolding cube q3_off
  q3-is = times-is q2-is placed.q-is (lit≤ tt)

  cosine-is : Val E (cosine u b.d) C (cosine_off nu nd) (3 * E + 1)
  unfolding cosine dot cosine_off
  cosine-is =
      wide_v
      (near_v (near-half (u.x *ℤ b.d.x +ℤ u.y *ℤ b.d.y +ℤ u.z *ℤ b.d.z) E (lit< tt)) (lit< tt)
      (plus_v (plus_v (mul_v placed.u-is.x placed.d-is.x) (mul_v placed.u-is.y placed.d-is.y)) (mul_v placed.u-is.z placed.d-is.z)))
      (lit≤ tt)

  pub c-is : Val E b.c C (cosine_off nu nd) (E + 182)
  c-is = bound_v (is_v placed.c-here cosine-is) placed.c-small

  -- ---- a displacement, of any rho and t

  -- a and d are components of u and b's d, X and Y the exact ones
  v-is : (a : ℤ) (X : Fraction) → Val E a X nu E → Val E (times b.c a) (C *ᶠ X) (part_off nu nd) (E + 183)
  unfolding part_off
  v-is a X a-is = times-is c-is a-is (lit≤ tt)

  module _
      {rho t : ℤ} {A B : Fraction} {up side er et : ℕ} (n : ℕ) (rho-is : Val metre rho A er up) (t-is : Val metre t B et side)
      (size : (up * E + side * (2 * E + 183)) / E + 1 ≤ n) where
    component-is : (a d : ℤ) (X Y : Fraction) → Val E a X nu E → Val E d Y nd E → Val metre (component rho t b.c a d) (A *ᶠ X +ᶠ B *ᶠ (Y -ᶠ C *ᶠ X)) (displaced_off nu nd er up et side) n
    unfolding component
    component-is a d X Y a-is d-is =
        wide_v
        (near_v (near-half (rho *ℤ a +ℤ t *ℤ (d -ℤ times b.c a)) E (lit< tt)) (lit< tt)
        (plus_v (mul_v rho-is a-is) (mul_v t-is (minus_v d-is (v-is a X a-is)))))
        size

    pub displaced-is : Metres (displaced_off nu nd er up et side) n (displaced rho t u b) (A *ᵛ r +ᵛ B *ᵛ (R -ᵛ C *ᵛ r))
    unfolding displaced
    displaced-is =
        let w = placed.u-is in
        let d = placed.d-is in
        record {
          x = component-is u.x b.d.x r.x R.x w.x d.x;
          y = component-is u.y b.d.y r.y R.y w.y d.y;
          z = component-is u.z b.d.z r.z R.z w.z d.z;
        }

-- What the steps of degree two stand for, of either body: from how it stands and K0, which is off by at most half a grain.
use Prim.Native.Nat.{ℕ, ◌+◌, ◌*◌, ◌≤◌}
use native.Mathlib.Omega.{arith}
use lib.Dec.{lit<, lit≤}
use lib.IntN.{ℤ, pos, nat_abs, ◌*ℤ◌}
use Rattle.algebra.specs.Fraction.{Fraction, ◌≈◌, ratio, ◌-ᶠ◌, ◌*ᶠ◌, ◌·ᶠ◌}
use Rattle.algebra.proofs.Error.{Val, ratio_v, scale_v, mul_v, plus_v, minus_v, times_v, weak_v, bound_v, same_v, wide_v}
use Rattle.algebra.proofs.Rearranged.{part_same}
use Rattle.mark.specs.declared.Vec3.{Vec3}
use Rattle.tides.specs.declared.solid.Standing.{Standing}
use Rattle.tides.specs.Direction.{E}
use Rattle.tides.specs.Permanent.{latitude}
use Rattle.tides.specs.Tide.{strength, height, love, shida, up_share, side_share, upward, sideways}
use Rattle.tides.specs.Tide as Tide
use Rattle.laws.specs.Formulas.{Vector, metre, dot, P2, h2, l2, degree_two}
use Rattle.laws.proofs.StepErrors.{product, cosine_off, height_off, strength_off, by_latitude, up_share_off, side_share_off, upward_off, sideways_off, two_off}
use Rattle.laws.proofs.StepValues.{times-is, share-is, height-is, latitude-is}
use Rattle.laws.proofs.BodyChain.{Metres, Placed, q3-is, c-is, displaced-is, same-is}

-- h and l at the scale 10,000 E, from the mark's P
module _ {p : ℤ} {P : Fraction} {e : ℕ} (p-is : Val E p P e (E + 548)) where
  -- n ten thousandths
  n-is : (n : ℕ) → Val (10000 * E) (pos n *ℤ pos E) (ratio (pos n) 10000) (0 * E) (n * E)
  n-is n = scale_v E (ratio_v (pos n) 10000 (lit< tt))

  -- of P
  of-P : (n : ℕ) → Val (10000 * E) (pos n *ℤ p) (ratio (pos n) 10000 *ᶠ P) (product 0 n e (E + 548)) (n * (E + 548))
  of-P n = mul_v (ratio_v (pos n) 10000 (lit< tt)) p-is

  h2-is : Val (10000 * E) (love p) (h2 P) (by_latitude 6 e) (6085 * E)
  unfolding h2 love
  h2-is = weak_v (minus_v (n-is 6078) (of-P 6)) (omega arith) (lit≤ tt)

  l2-is : Val (10000 * E) (shida p) (l2 P) (by_latitude 2 e) (850 * E)
  unfolding l2 shida
  l2-is = weak_v (plus_v (n-is 847) (of-P 2)) (omega arith) (lit≤ tt)

module _
    {nu nd nq : ℕ} {u : Vec3} {b : Standing} {r R : Vector} {Q : Fraction}
    (placed : Placed nu nd nq u b r R Q) (k0 : ℕ) (K0 K : Fraction)
    (k0-is : Val metre (pos k0) K0 500 523578453)
    (K-same : K0 *ᶠ (Q *ᶠ Q *ᶠ Q) ≈ K)
    (K-small : nat_abs (strength k0 b.q) ≤ 693629844) where
  abbrev k : ℤ
  k = strength k0 b.q

  abbrev C : Fraction
  C = dot r R

  k-is : Val metre k K (strength_off nq) 693629844
  unfolding strength strength_off
  k-is = bound_v (same_v K-same (times-is k0-is (q3-is placed) (lit≤ {n = 693629850} tt))) K-small

  abbrev lat : ℤ
  lat = latitude u

  abbrev P : Fraction
  P = P2 r.z

  lat-is : Val E lat P (height_off nu) (E + 548)
  lat-is = latitude-is placed.u-is

  p-is : Val E (height b.c) (P2 C) (height_off (cosine_off nu nd)) (E + 548)
  p-is = height-is b.c C (c-is placed)

  h-is : Val metre (up_share lat k) (h2 P *ᶠ K) (up_share_off nu nq) 422073761
  unfolding up_share up_share_off
  h-is = share-is (h2-is lat-is) k-is (lit< tt) (lit≤ tt)

  s-is : Val metre (side_share lat k) (l2 P *ᶠ K) (side_share_off nu nq) 58958538
  unfolding side_share side_share_off
  s-is = share-is (l2-is lat-is) k-is (lit< tt) (lit≤ tt)

  rho-is : Val metre (upward lat k b.c) (h2 P *ᶠ K *ᶠ P2 C) (upward_off nu nd nq) 422075000
  unfolding upward upward_off
  rho-is = times-is h-is p-is (lit≤ tt)

  t-is : Val metre (sideways lat k b.c) (pos 3 ·ᶠ (l2 P *ᶠ K *ᶠ C)) (3 * sideways_off nu nd nq) 176880000
  unfolding sideways sideways_off
  t-is = wide_v (times_v (pos 3) (times-is s-is (c-is placed) (lit≤ {n = 58960000} tt))) (lit≤ tt)

  pub two_is : Metres (two_off nu nd nq) 780000000 (Tide.degree_two k0 u b) (degree_two K r R)
  unfolding Tide.degree_two two_off
  two_is =
      same-is
      (part_same K (h2 P) (P2 C) r.x (l2 P) C (R.x -ᶠ C *ᶠ r.x))
      (part_same K (h2 P) (P2 C) r.y (l2 P) C (R.y -ᶠ C *ᶠ r.y))
      (part_same K (h2 P) (P2 C) r.z (l2 P) C (R.z -ᶠ C *ᶠ r.z))
      (displaced-is placed 780000000 rho-is t-is (lit≤ tt))

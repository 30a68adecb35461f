-- What the steps of the Moon's degree three stand for: from how it stands and K0₃, which is off by at most half a grain.
use Prim.Native.Nat.{ℕ, ◌+◌, ◌*◌}
use lib.Dec.{lit<, lit≤}
use lib.IntN.{ℤ, pos, ◌-ℤ◌, ◌*ℤ◌}
use Rattle.algebra.specs.Fraction.{Fraction, ◌≈◌, ◌-ᶠ◌, ◌*ᶠ◌}
use Rattle.algebra.specs.Rounding.{Half}
use Rattle.algebra.proofs.Error.{Val, const_v, ratio_v, near_v, times_v, over_v, minus_v, same_v, wide_v}
use Rattle.algebra.proofs.Rearranged.{third-same}
use Rattle.numbers.proofs.NearLaws.{near-half}
use Rattle.mark.specs.declared.Vec3.{Vec3}
use Rattle.tides.specs.declared.solid.Standing.{Standing}
use Rattle.tides.specs.Direction.{E, times}
use Rattle.tides.specs.Bodies.{third_k0}
use Rattle.tides.specs.Tide.{cube, fourth, strength_three, height_three, slope_three, up_share_three, side_share_three, upward_three, sideways_three}
use Rattle.tides.specs.Tide as Tide
use Rattle.laws.specs.Formulas.{Vector, metre, dot, P3, slope3, h3, l3, degree_three}
use Rattle.laws.proofs.StepErrors.{square_off, cosine_off, q4_off, strength_three_off, c3_off, height_three_off, slope_three_off, up_share_three_off, side_share_three_off, upward_three_off, sideways_three_off, three_off}
use Rattle.laws.proofs.StepValues.{times-is, share-is, square-is}
use Rattle.laws.proofs.BodyChain.{Metres, Placed, q3-is, c-is, displaced-is, same-is}

h3-is : Val 1000 (pos 292) h3 0 292
unfolding h3
h3-is = ratio_v (pos 292) 1000 (lit< tt)

l3-is : Val 1000 (pos 15) l3 0 15
unfolding l3
l3-is = ratio_v (pos 15) 1000 (lit< tt)

height-half : (c : ℤ) → Half (pos 5 *ℤ cube c -ℤ pos 3 *ℤ c) 2 (height_three c)
unfolding height_three
height-half c = near-half (pos 5 *ℤ cube c -ℤ pos 3 *ℤ c) 2 (lit< tt)

slope-half : (c : ℤ) → Half (pos 15 *ℤ times c c -ℤ pos 3 *ℤ pos E) 2 (slope_three c)
unfolding slope_three
slope-half c = near-half (pos 15 *ℤ times c c -ℤ pos 3 *ℤ pos E) 2 (lit< tt)

module _
    {nu nd nq : ℕ} {u : Vec3} {b : Standing} {r R : Vector} {Q : Fraction}
    (placed : Placed nu nd nq u b r R Q) (K0 K : Fraction)
    (k0-is : Val metre (pos third_k0) K0 500 8687448)
    (K-same : K0 *ᶠ (Q *ᶠ Q *ᶠ Q *ᶠ Q) ≈ K) where
  abbrev k : ℤ
  k = strength_three third_k0 b.q

  abbrev C : Fraction
  C = dot r R

  q4-is : Val E (fourth b.q) (Q *ᶠ Q *ᶠ Q *ᶠ Q) (q4_off nq) 1562288410
  unfolding fourth q4_off
  q4-is = times-is (q3-is placed) placed.q-is (lit≤ tt)

  k-is : Val metre k K (strength_three_off nq) 12640189
  unfolding strength_three strength_three_off
  k-is = same_v K-same (times-is k0-is q4-is (lit≤ tt))

  c2-is : Val E (times b.c b.c) (C *ᶠ C) (square_off (cosine_off nu nd)) (E + 365)
  c2-is = square-is b.c C (c-is placed)

  c3-is : Val E (cube b.c) (C *ᶠ C *ᶠ C) (c3_off nu nd) (E + 548)
  unfolding cube c3_off
  c3-is = times-is c2-is (c-is placed) (lit≤ tt)

  p-is : Val E (height_three b.c) (P3 C) (height_three_off nu nd) (4 * E + 1644)
  unfolding P3 height_three_off
  p-is =
      wide_v
      (near_v (height-half b.c) (lit< tt) (over_v 2 (lit< tt) (minus_v (times_v (pos 5) c3-is) (times_v (pos 3) (c-is placed)))))
      (lit≤ tt)

  slope-is : Val E (slope_three b.c) (slope3 C) (slope_three_off nu nd) (9 * E + 2738)
  unfolding slope3 slope_three_off
  slope-is =
      wide_v
      (near_v (slope-half b.c) (lit< tt) (over_v 2 (lit< tt) (minus_v (times_v (pos 15) c2-is) (const_v E (pos 3)))))
      (lit≤ tt)

  h-is : Val metre (up_share_three k) (h3 *ᶠ K) (up_share_three_off nq) 3690936
  unfolding up_share_three up_share_three_off
  h-is = share-is h3-is k-is (lit< tt) (lit≤ tt)

  s-is : Val metre (side_share_three k) (l3 *ᶠ K) (side_share_three_off nq) 189603
  unfolding side_share_three side_share_three_off
  s-is = share-is l3-is k-is (lit< tt) (lit≤ tt)

  rho-is : Val metre (upward_three k b.c) (h3 *ᶠ K *ᶠ P3 C) (upward_three_off nu nd nq) 14763750
  unfolding upward_three upward_three_off
  rho-is = times-is h-is p-is (lit≤ tt)

  t-is : Val metre (sideways_three k b.c) (l3 *ᶠ K *ᶠ slope3 C) (sideways_three_off nu nd nq) 1706428
  unfolding sideways_three sideways_three_off
  t-is = times-is s-is slope-is (lit≤ tt)

  pub three-is : Metres (three_off nu nd nq) 18400000 (Tide.degree_three third_k0 u b) (degree_three K r R)
  unfolding Tide.degree_three three_off
  three-is =
      same-is
      (third-same K h3 (P3 C) r.x l3 (slope3 C) (R.x -ᶠ C *ᶠ r.x))
      (third-same K h3 (P3 C) r.y l3 (slope3 C) (R.y -ᶠ C *ᶠ r.y))
      (third-same K h3 (P3 C) r.z l3 (slope3 C) (R.z -ᶠ C *ᶠ r.z))
      (displaced-is placed 18400000 rho-is t-is (lit≤ tt))

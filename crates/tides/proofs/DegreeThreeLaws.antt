-- How large the steps of the Moon's degree three are, from how it stands: q at most 1.1 E, and |c| at most E + 182.
use Prim.Native.Nat.{ℕ, ◌+◌, ◌*◌, ◌≤◌}
use native.Mathlib.Nat.{le_refl}
use native.Mathlib.Omega.{arith}
use lib.Dec.{lit≤}
use lib.IntN.{ℤ, nat_abs}
use Rattle.algebra.proofs.Machine.{plain, lit, v-, v*}
use Rattle.mark.specs.declared.Vec3.{Vec3}
use Rattle.mark.specs.Ranges.{Within}
use Rattle.tides.specs.declared.solid.Standing.{Standing}
use Rattle.tides.specs.Direction.{E, times}
use Rattle.tides.specs.Bodies.{third_k0}
use Rattle.tides.specs.Tide.{cube, fourth, strength_three, height_three, slope_three, up_share_three, side_share_three, upward_three, sideways_three, degree_three}
use Rattle.tides.specs.Steps.{Stood}
use Rattle.tides.proofs.StepLaws.{times-bound}
use Rattle.tides.proofs.DegreeTwoLaws.{cube-bound, square-bound, displaced-small}
use Rattle.numbers.proofs.NearSteps.{near-at}

-- a, b, c, d bound q, q2, q3, q4
pub strength-three-bound :
    (q : ℤ) (a b c d K : ℕ)
    → nat_abs q ≤ a
    → a * a ≤ b * E
    → b * a ≤ c * E
    → c * a ≤ d * E
    → third_k0 * d ≤ K * E
    → nat_abs (strength_three third_k0 q) ≤ K
unfolding fourth strength_three
strength-three-bound q a b c d K h hb hc hd h_k =
    times-bound _ (times (cube q) q) third_k0 d K (le_refl third_k0) (times-bound (cube q) q c a d (cube-bound q a b c h hb hc) h hd) h_k

-- 8,687,448 x 1.4641
pub third-strength : (q : ℤ) → nat_abs q ≤ 1181116007 → nat_abs (strength_three third_k0 q) ≤ 12719293
third-strength q h = strength-three-bound q 1181116007 1299227609 1429150371 1572065409 12719293 h (lit≤ tt) (lit≤ tt) (lit≤ tt) (lit≤ tt)

pub cosine-cube : (c : ℤ) → nat_abs c ≤ E + 182 → nat_abs (cube c) ≤ E + 548
cosine-cube c h = cube-bound c (E + 182) (E + 365) (E + 548) h (lit≤ tt) (lit≤ tt)

pub height-three-bound : (c : ℤ) → nat_abs c ≤ E + 182 → nat_abs (height_three c) ≤ 4 * E + 1643
unfolding height_three
height-three-bound c h = (near-at 2 (4 * E + 1643) (v- (v* (lit 5) (plain (cube c) (cosine-cube c h))) (v* (lit 3) (plain c h))) (lit≤ tt)).small

pub slope-three-bound : (c : ℤ) → nat_abs c ≤ E + 182 → nat_abs (slope_three c) ≤ 9 * E + 2738
unfolding slope_three
slope-three-bound c h = (near-at 2 (9 * E + 2738) (v- (v* (lit 15) (plain (times c c) (square-bound c h))) (v* (lit 3) (lit E))) (lit≤ tt)).small

module _ (k c : ℤ) (hk : nat_abs k ≤ 12719293) (hc : nat_abs c ≤ E + 182) where
  pub upward-three-bound : nat_abs (upward_three k c) ≤ 14856142
  unfolding up_share_three upward_three
  upward-three-bound =
      times-bound _ (height_three c) 3714034 (4 * E + 1643) 14856142 (near-at 1000 3714034 (v* (lit 292) (plain k hk)) (lit≤ tt)).small (height-three-bound c hc) (lit≤ tt)

  pub sideways-three-bound : nat_abs (sideways_three k c) ≤ 1717111
  unfolding side_share_three sideways_three
  sideways-three-bound =
      times-bound _ (slope_three c) 190790 (9 * E + 2738) 1717111 (near-at 1000 190790 (v* (lit 15) (plain k hk)) (lit≤ tt)).small (slope-three-bound c hc) (lit≤ tt)

-- under 13 mm
pub degree-three-small : (u : Vec3) (b : Standing) → Within E u → Stood b → Within 18400000 (degree_three third_k0 u b)
unfolding degree_three
degree-three-small u b hu hb =
    let k : ℤ = strength_three third_k0 b.q in
    let hk = third-strength b.q hb.q in
    displaced-small 18400000 (upward_three k b.c) (sideways_three k b.c) u b hu hb
    (omega (arith, upward-three-bound k b.c hk hb.c, sideways-three-bound k b.c hk hb.c))

-- How large the steps of degree two are, and a displacement of either degree.
--
-- K is the strength, R0 and K0 of the paper with it. Degree two of a body is at most 1.12 K and 10 grains more in each component: at most 0.6085 K
-- upward, and 3 x 0.085 K sideways times |d - c u|, which is at most 2.
use mathlib.Core.Path.{◌≡◌, subst, sym}
use Prim.Native.Nat.{ℕ, ◌+◌, ◌*◌, ◌≤◌}
use native.Mathlib.Nat.{le_refl, mul-le-mul}
use native.Mathlib.Omega.{arith}
use lib.Dec.{lit<, lit≤}
use lib.IntN.{ℤ, pos, nat_abs, ◌+ℤ◌, ◌-ℤ◌, ◌*ℤ◌}
use Rattle.algebra.proofs.Difference.{ℤ⊖}
use Rattle.algebra.proofs.IntLaws.{abs-+, abs--, abs-*, abs-square}
use Rattle.mark.specs.declared.Vec3.{Vec3}
use Rattle.mark.specs.Ranges.{Within}
use Rattle.tides.specs.declared.solid.Standing.{Standing}
use Rattle.tides.specs.Direction.{E, times, legendre}
use Rattle.tides.specs.Permanent.{s2, latitude}
use Rattle.tides.specs.Tide.{nearness, cube, component, displaced, strength, height, up_share, side_share, upward, sideways, degree_two}
use Rattle.tides.specs.Steps.{Stood}
use Rattle.tides.proofs.StepLaws.{times-bound}
use Rattle.tides.proofs.ShareLaws.{up-share-size, side-share-size}
use Rattle.numbers.specs.Near.{near}
use Rattle.numbers.proofs.NearLaws.{near-size, near-bound, near-natural}

-- ---- the strength

pub nearness-bound : (r0 r q : ℕ) → r0 * E ≤ q * r → nat_abs (nearness r0 r) ≤ q
unfolding nearness
nearness-bound r0 r q h = near-bound (pos r0 *ℤ pos E) r q h

-- a, b, c bound x, x2, x3
pub cube-bound : (x : ℤ) (a b c : ℕ) → nat_abs x ≤ a → a * a ≤ b * E → b * a ≤ c * E → nat_abs (cube x) ≤ c
unfolding cube
cube-bound x a b c h hb hc = times-bound (times x x) x b a c (times-bound x x a a b h h hb) h hc

-- and K
pub strength-bound :
    (k0 : ℕ) (q : ℤ) (a b c K : ℕ)
    → nat_abs q ≤ a
    → a * a ≤ b * E
    → b * a ≤ c * E
    → k0 * c ≤ K * E
    → nat_abs (strength k0 q) ≤ K
unfolding strength
strength-bound k0 q a b c K h hb hc h_k = times-bound (pos k0) (cube q) k0 c K (le_refl k0) (cube-bound q a b c h hb hc) h_k

pub moon-strength : (r : ℕ) → 350000000 ≤ r → nat_abs (strength 523578453 (nearness 384400000 r)) ≤ 693629844
moon-strength r h =
    strength-bound 523578453 (nearness 384400000 r) 1179275307 1295181224 1422479037 693629844
    (nearness-bound 384400000 r 1179275307 (omega arith))
    (lit≤ tt)
    (lit≤ tt)
    (lit≤ tt)

pub sun-strength : (r : ℕ) → 146000000 ≤ r → nat_abs (strength 240449078 (nearness 149597870 r)) ≤ 258666854
sun-strength r h =
    strength-bound 240449078 (nearness 149597870 r) 1100201985 1127314203 1155094546 258666854
    (nearness-bound 149597870 r 1100201985 (omega arith))
    (lit≤ tt)
    (lit≤ tt)
    (lit≤ tt)

-- ---- p: since c² is not negative, it is at most E and a little

legendre-small : (m e n : ℕ) → 3 * m ≤ n + e → e ≤ n → nat_abs (pos 3 *ℤ pos m -ℤ pos e) ≤ n
legendre-small m e n = simp ℤ⊖ (omega arith)

legendre-bound : (m : ℕ) → m ≤ E + 365 → nat_abs (legendre (pos m)) ≤ E + 548
unfolding legendre
legendre-bound m h =
    near-bound (pos 3 *ℤ pos m -ℤ pos E) 2 (E + 548) (legendre-small m E ((E + 548) * 2) (omega arith) (lit≤ tt))

square-is : (c : ℤ) → times c c ≡ pos (nat_abs (times c c))
unfolding times
square-is c =
    subst (λ (z : ℤ). near z E ≡ pos (nat_abs (near z E))) (sym (abs-square c)) (near-natural (nat_abs c * nat_abs c) E)

pub square-bound : (c : ℤ) → nat_abs c ≤ E + 182 → nat_abs (times c c) ≤ E + 365
square-bound c h = times-bound c c (E + 182) (E + 182) (E + 365) h h (lit≤ tt)

pub height_bound : (c : ℤ) → nat_abs c ≤ E + 182 → nat_abs (height c) ≤ E + 548
unfolding height
height_bound c h =
    subst (λ (z : ℤ). nat_abs (legendre z) ≤ E + 548) (sym (square-is c))
    (legendre-bound (nat_abs (times c c)) (square-bound c h))

-- ---- the mark's P, which is of its sine what p is of c

pub latitude-bound : (u : Vec3) → Within E u → nat_abs (latitude u) ≤ E + 548
unfolding latitude s2 height
latitude-bound u h = height_bound u.z (omega (arith, h.z))

-- ---- a displacement

-- near(x y/E) where y is at most m in size
times-size : (x y : ℤ) (m : ℕ) → nat_abs y ≤ m → 2 * (E * nat_abs (times x y)) ≤ 2 * (nat_abs x * m) + E
unfolding times
times-size x y m h =
    omega (arith, near-size (x *ℤ y) E (lit< tt), abs-* x y, mul-le-mul (le_refl (nat_abs x)) h)

module _ (P k c : ℤ) (h_p : nat_abs P ≤ E + 548) (hc : nat_abs c ≤ E + 182) where
  upward-size : 10000 * nat_abs (upward P k c) ≤ 6086 * nat_abs k + 11000
  unfolding upward
  upward-size = omega (arith, up-share-size P k h_p, times-size (up_share P k) (height c) (E + 548) (height_bound c hc))

  sideways-size : 10000 * nat_abs (sideways P k c) ≤ 2551 * nat_abs k + 40000
  unfolding sideways
  sideways-size = omega (arith, side-share-size P k h_p, times-size (side_share P k) c (E + 182) hc, abs-* (pos 3) (times (side_share P k) c))

component-size :
    (rho t c u d : ℤ)
    → nat_abs c ≤ E + 182
    → nat_abs u ≤ E
    → nat_abs d ≤ E
    → 2 * (E * nat_abs (component rho t c u d)) ≤ 2 * (nat_abs rho * E + nat_abs t * (E + (E + 182))) + E
unfolding component
component-size rho t c u d hc hu hd =
    let a = abs-- d (times c u) in
    let b = times-bound c u (E + 182) E (E + 182) hc hu (le_refl ((E + 182) * E)) in
    let m : nat_abs (d -ℤ times c u) ≤ E + (E + 182) = omega arith in
    omega (
      arith,
      near-size (rho *ℤ u +ℤ t *ℤ (d -ℤ times c u)) E (lit< tt),
      abs-+ (rho *ℤ u) (t *ℤ (d -ℤ times c u)),
      abs-* rho u,
      abs-* t (d -ℤ times c u),
      mul-le-mul (le_refl (nat_abs rho)) hu,
      mul-le-mul (le_refl (nat_abs t)) m,
    )

-- both degrees: |rho u + t(d - c u)| is at most |rho| + 2 |t| and a little
pub displaced-small :
    (n : ℕ) (rho t : ℤ) (u : Vec3) (b : Standing)
    → Within E u
    → Stood b
    → nat_abs rho * E + nat_abs t * (2 * E + 182) ≤ n * E
    → Within n (displaced rho t u b)
unfolding displaced
displaced-small n rho t u b hu hb h =
    record {
      x = omega (arith, component-size rho t b.c u.x b.d.x hb.c hu.x hb.d.x);
      y = omega (arith, component-size rho t b.c u.y b.d.y hb.c hu.y hb.d.y);
      z = omega (arith, component-size rho t b.c u.z b.d.z hb.c hu.z hb.d.z);
    }

pub degree-two-small :
    (k0 K n : ℕ) (u : Vec3) (b : Standing)
    → nat_abs (strength k0 b.q) ≤ K
    → Within E u
    → Stood b
    → 112 * K + 1000 ≤ 100 * n
    → Within n (degree_two k0 u b)
unfolding degree_two
degree-two-small k0 K n u b hk hu hb hn =
    let k : ℤ = strength k0 b.q in
    let P : ℤ = latitude u in
    let h_p = latitude-bound u hu in
    displaced-small n (upward P k b.c) (sideways P k b.c) u b hu hb
    (omega (arith, upward-size P k b.c h_p hb.c, sideways-size P k b.c h_p hb.c))

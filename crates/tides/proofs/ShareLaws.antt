-- H and S of degree two, near((a E + b P) K/(10,000 E)): how they are worked out in 64 bits, though the product can have 72, and how large they are.
use mathlib.Core.List.{[], ◌∷◌}
use mathlib.Core.Path.{◌≡◌, refl, sym, ap, ◌∙◌}
use Prim.Native.Nat.{ℕ, ◌+◌, ◌*◌, ◌≤◌}
use native.Mathlib.Nat.{le_refl, mul-le-mul}
use native.Mathlib.Omega.{arith}
use lib.Dec.{lit<}
use lib.IntN.{ℤ, pos, negsuc, nat_abs, ◌+ℤ◌, ◌-ℤ◌, ◌*ℤ◌}
use Rattle.algebra.proofs.IntLaws.{abs-*}
use Rattle.algebra.proofs.Machine.{plain, lit, v+, v-, v*}
use Rattle.algebra.proofs.Ring.{quote, by-ring}
use Rattle.tides.specs.Direction.{E}
use Rattle.tides.specs.Tide.{love, shida, up_share, side_share}
use Rattle.tides.specs.Steps.{share_of}
use Rattle.numbers.specs.Near.{near}
use Rattle.numbers.proofs.NearLaws.{near-rest, near-size, near-shift}

-- ---- in 64 bits: the whole part of a K is taken out, in twos

-- what is left of w, after the nearest multiple of 20,000
pub rest-small : (w : ℤ) → nat_abs (w -ℤ pos 20000 *ℤ near w 20000) ≤ 10000
rest-small w = omega (arith, near-rest w 20000 (lit< tt))

-- whatever t is
pub in-twos : (a b P k t : ℤ) → pos 2 *ℤ t +ℤ near ((a *ℤ k -ℤ pos 20000 *ℤ t) *ℤ pos E +ℤ b *ℤ P *ℤ k) (10000 * E) ≡ share_of a b P k
unfolding share_of
in-twos a b P k t =
    sym (near-shift t ((a *ℤ k -ℤ pos 20000 *ℤ t) *ℤ pos E +ℤ b *ℤ P *ℤ k) (10000 * E) (lit< tt))
    ∙ ap (λ (z : ℤ). near z (10000 * E)) (by-ring (a ∷ b ∷ P ∷ k ∷ t ∷ []) (search quote depth 60 fits 5000) tt)

-- ---- the two

pub up_is : (P k : ℤ) → share_of (pos 6078) (negsuc 5) P k ≡ up_share P k
unfolding share_of up_share love
up_is P k =
    let e : pos 6078 *ℤ pos E +ℤ negsuc 5 *ℤ P ≡ pos 6078 *ℤ pos E -ℤ pos 6 *ℤ P = by-ring (P ∷ []) (search quote depth 30) tt in
    ap (λ (z : ℤ). near (z *ℤ k) (10000 * E)) e

pub side-is : (P k : ℤ) → share_of (pos 847) (pos 2) P k ≡ side_share P k
unfolding share_of side_share shida
side-is P k = refl

-- ---- how large they are, of any K

module _ (P : ℤ) (h : nat_abs P ≤ E + 548) where
  -- over 0.6078 + 0.0006, whatever the sign of P
  love-bound : nat_abs (love P) ≤ 6085 * E
  unfolding love
  love-bound = omega (arith, (v- (lit (6078 * E)) (v* (lit 6) (plain P h))).small)

  -- over 0.0847 + 0.0002
  shida-bound : nat_abs (shida P) ≤ 850 * E
  unfolding shida
  shida-bound = omega (arith, (v+ (lit (847 * E)) (v* (lit 2) (plain P h))).small)

-- near(x k/(10,000 E)), where x is at most n E in size
share-size : (x k : ℤ) (n : ℕ) → nat_abs x ≤ n * E → 2 * (10000 * nat_abs (near (x *ℤ k) (10000 * E))) ≤ 2 * (n * nat_abs k) + 10000
share-size x k n h = omega (arith, near-size (x *ℤ k) (10000 * E) (lit< tt), abs-* x k, mul-le-mul h (le_refl (nat_abs k)))

pub up-share-size : (P k : ℤ) → nat_abs P ≤ E + 548 → 2 * (10000 * nat_abs (up_share P k)) ≤ 2 * (6085 * nat_abs k) + 10000
unfolding up_share
up-share-size P k h = share-size (love P) k 6085 (love-bound P h)

pub side-share-size : (P k : ℤ) → nat_abs P ≤ E + 548 → 2 * (10000 * nat_abs (side_share P k)) ≤ 2 * (850 * nat_abs k) + 10000
unfolding side_share
side-share-size P k h = share-size (shida P) k 850 (shida-bound P h)

-- The magnitude is rounded, and the sign put back. What is rounded grows no larger, so with its sign it fits.
use mathlib.Core.Path.{◌≡◌, ap, ◌∙◌}
use native.Mathlib.Omega.{arith}
use Rattle.std.proofs.Common.{ℕ, ◌+◌, ◌%◌, ◌^◌, ◌≤◌, ◌<◌, ℤ, pos, neg_ℤ, nat_abs, to_z, of_z, w64, FitsSigned}
use Rattle.std.proofs.lemmas.Int.{ints, to_z-of_z, to_z_pos}
use Rattle.algebra.proofs.Machine.{Negative, negative, Positive, positive}
use Rattle.numbers.specs.Near.{nearest, near}
use Rattle.numbers.proofs.NearLaws.{nearest-no-larger}
use Rattle.numbers.proofs.near.Goals as goal

-- 2^64 - n as bits is -n
turned : (r n : ℕ) → r < 2 ^ 64 → n ≤ 2 ^ 63 → (r + n) % 2 ^ 64 ≡ 0 → to_z w64 r ≡ neg_ℤ (pos n)
turned r n l h e = grind (arith, ints)

-- what came back is the rounded magnitude
came : (a : ℤ) (b m n : ℕ) → FitsSigned w64 a → m ≡ nat_abs (to_z w64 (of_z w64 a)) → n ≡ nearest m b → n ≡ nearest (nat_abs a) b
came a b m n f e g = g ∙ ap (λ (k : ℕ). nearest k b) (e ∙ ap nat_abs (to_z-of_z w64 a f))

below : (a : ℤ) (b n : ℕ) → Negative a → n ≡ nearest (nat_abs a) b → (n ≤ 2 ^ 63) × (neg_ℤ (pos n) ≡ near a b)
unfolding near
below a b n h e =
    let f = e ∙ ap (λ (z : ℤ). nearest (nat_abs z) b) h.is in
    (omega (arith, h.small, ap nat_abs h.is, nearest-no-larger (nat_abs a) b), rw h.is (ap (λ (m : ℕ). neg_ℤ (pos m)) f))

above : (a : ℤ) (b n : ℕ) → Positive a → n ≡ nearest (nat_abs a) b → (n < 2 ^ 63) × (pos n ≡ near a b)
unfolding near
above a b n h e =
    let f = e ∙ ap (λ (z : ℤ). nearest (nat_abs z) b) h.is in
    (omega (arith, h.small, ap nat_abs h.is, nearest-no-larger (nat_abs a) b), rw h.is (ap pos f))

pub returns-then-negative : goal.returns-then-negative
returns-then-negative c =
    let a = c.args.a in
    let n = c.nearest-n.result in
    let p = below a c.args.b n (negative a c.ranges.a (cc)) (came a c.args.b c.magnitude.result n c.ranges.a c.magnitude.ensures c.nearest-n.ensures) in
    let t = turned c.wrapping_neg.result n c.wrapping_neg.type_inv p.0 c.wrapping_neg.ensures in
    let f = to_z-of_z w64 c.cast_signed.result (record { sfits = c.cast_signed.type_inv }) in
    cc (c.cast_signed.ensures, p.1)

pub overflow_cast-result : goal.overflow_cast-result
overflow_cast-result c =
    let a = c.args.a in
    let p = above a c.args.b c.nearest-n.result (positive a c.ranges.a (cc)) (came a c.args.b c.magnitude.result c.nearest-n.result c.ranges.a c.magnitude.ensures c.nearest-n.ensures) in
    record { sfits = p.0 }

pub returns : goal.returns
returns c =
    let a = c.args.a in
    let p = above a c.args.b c.nearest-n.result (positive a c.ranges.a (cc)) (came a c.args.b c.magnitude.result c.nearest-n.result c.ranges.a c.magnitude.ensures c.nearest-n.ensures) in
    to_z_pos w64 c.nearest-n.result p.0 ∙ p.1

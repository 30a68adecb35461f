-- The laws of `near`: off by at most a half, so what is left and how large it is; odd, the same for equal fractions, moved by an even whole number as the fraction is, exact at multiples, not
-- negative where the fraction is not, and no larger than a whole bound; a number nearer than a half is the one, and between neighbours of an even
-- denominator nothing changes. They stand on `near-is` and `near-only` of NearRule.antt. Nothing above may use more of `near` than these two and the laws, so that
-- another rule for halves changes that file, and here the move by an even number.
use mathlib.Core.Path.{◌≡◌, refl, sym, ap, ◌∙◌, subst, subst⁻¹}
use mathlib.Core.Logic.{inl, inr}
use Prim.Native.Nat.{ℕ, suc, ◌+◌, ◌*◌, ◌≤◌, ◌<◌, zero-le}
use native.Mathlib.Nat.{le_refl, mul-le-mul, mul_comm, mul-zero, mul-pos, eq-zero-or-pos, eq_of_mul-eq-mul_left, lt_of_mul-lt-mul_left, le_of_suc-le-suc, le-mul_of_pos_right}
use native.Mathlib.Omega.{arith}
use mathlib.Core.List.{[], ◌∷◌}
use lib.IntN.{ℤ, pos, negsuc, neg_ℤ, nat_abs, ◌+ℤ◌, ◌-ℤ◌, ◌*ℤ◌}
use lib.Signed.{◌≤ℤ◌, ◌<ℤ◌}
use Rattle.algebra.specs.Rounding.{Half}
use Rattle.algebra.proofs.Difference.{split, ℤ⊖}
use Rattle.algebra.proofs.IntLaws.{0≤→pos, abs-swap, apart, abs-*}
use Rattle.algebra.proofs.Ring.{by-ring, quote}
use Rattle.algebra.proofs.Error.{quotient-size}
use Rattle.numbers.specs.Near.{nearest, near, IsNear}
use Rattle.numbers.proofs.NearRule.{nearest-by-zero, strictly, carried, turned, near-is, near-only}

-- off by at most a half
pub near-half : (a : ℤ) (b : ℕ) → 0 < b → Half a b (near a b)
near-half a b h = (near-is a b h).half

-- so what is left of a, with the multiple taken away, is at most half of b
pub near-rest : (a : ℤ) (b : ℕ) → 0 < b → 2 * nat_abs (a -ℤ pos b *ℤ near a b) ≤ b
near-rest a b h = omega (arith, abs-swap a (pos b *ℤ near a b), (near-half a b h).off)

-- and near is at most a half larger than the fraction
pub near-size : (a : ℤ) (b : ℕ) → 0 < b → 2 * (b * nat_abs (near a b)) ≤ 2 * nat_abs a + b
near-size a b h = omega (arith, apart (pos b *ℤ near a b) a, abs-* (pos b) (near a b), (near-half a b h).off)

-- a whole number that is nearer to a/b than a half is near(a/b)
pub near-strict : (a : ℤ) (b : ℕ) (q : ℤ) → 2 * nat_abs (a -ℤ pos b *ℤ q) < b → near a b ≡ q
near-strict a b q h = near-only a b q (omega arith) (strictly (omega (arith, abs-swap a (pos b *ℤ q))))

-- by 0 it is 0
near-by-zero : (a : ℤ) → near a 0 ≡ pos 0
unfolding near
near-by-zero (pos n) = ap pos (nearest-by-zero n)
near-by-zero (negsuc n) = ap (λ (q : ℕ). neg_ℤ (pos q)) (nearest-by-zero (suc n))

-- odd
pub near-odd : (a : ℤ) (b : ℕ) → near (neg_ℤ a) b ≡ neg_ℤ (near a b)
near-odd a b = elim (eq-zero-or-pos b) [
  | inl e ↦ rw e (near-by-zero (neg_ℤ a) ∙ ap neg_ℤ (sym (near-by-zero a)))
  | inr h ↦ near-only (neg_ℤ a) b (neg_ℤ (near a b)) h (turned (near-is a b h))
]

-- exact at multiples
pub near-multiple : (k : ℤ) (b : ℕ) → 0 < b → near (k *ℤ pos b) b ≡ k
near-multiple k b h = near-strict (k *ℤ pos b) b k (omega (arith, none k))
  where
    none : (k : ℤ) → nat_abs (k *ℤ pos b -ℤ pos b *ℤ k) ≡ 0
    none k = rw (split k) (simp ℤ⊖ (omega arith))

-- it depends on the value of the fraction only
scaled : (k : ℕ) {a q : ℤ} {b : ℕ} → 0 < k → IsNear a b q → IsNear (pos k *ℤ a) (k * b) q
scaled k {a} {q} {b} h i =
    record {
      half = record { off = omega (arith, as-far, mul-le-mul (le_refl k) i.half.off) };
      even = λ t. i.even (eq_of_mul-eq-mul_left k h (2 * nat_abs (pos b *ℤ q -ℤ a)) b (omega (arith, as-far, t)));
    }
  where
    same : pos (k * b) *ℤ q -ℤ pos k *ℤ a ≡ pos k *ℤ (pos b *ℤ q -ℤ a)
    same = by-ring (a ∷ q ∷ pos k ∷ pos b ∷ []) (search quote depth 30) tt

    as-far : nat_abs (pos (k * b) *ℤ q -ℤ pos k *ℤ a) ≡ k * nat_abs (pos b *ℤ q -ℤ a)
    as-far = ap nat_abs same ∙ abs-* (pos k) (pos b *ℤ q -ℤ a)

pub near-scale : (k : ℕ) (a : ℤ) (b : ℕ) → 0 < k → near (pos k *ℤ a) (k * b) ≡ near a b
near-scale k a b h = elim (eq-zero-or-pos b) [
  | inl e ↦ rw (e, mul-zero k) (near-by-zero (pos k *ℤ a) ∙ sym (near-by-zero a))
  | inr p ↦ near-only (pos k *ℤ a) (k * b) (near a b) (mul-pos h p) (scaled k h (near-is a b p))
]

pub near_same : (a : ℤ) (b : ℕ) (c : ℤ) (d : ℕ) → 0 < b → 0 < d → pos d *ℤ a ≡ pos b *ℤ c → near a b ≡ near c d
near_same a b c d B D e =
    sym (near-scale d a b D)
    ∙ ap (λ (x : ℤ). near x (d * b)) e
    ∙ ap (λ (x : ℕ). near (pos b *ℤ c) x) (mul_comm d b)
    ∙ near-scale b c d B

-- an even whole number more in the fraction is as much more in near, whatever the signs
pub near-shift : (k a : ℤ) (b : ℕ) → 0 < b → near (pos 2 *ℤ k *ℤ pos b +ℤ a) b ≡ pos 2 *ℤ k +ℤ near a b
near-shift k a b h =
    near-only (pos 2 *ℤ k *ℤ pos b +ℤ a) b (pos 2 *ℤ k +ℤ near a b) h
    (carried (ap nat_abs as-far) (λ e. (k +ℤ e.0, ap (λ (q : ℤ). pos 2 *ℤ k +ℤ q) e.1 ∙ twice e.0)) (near-is a b h))
  where
    as-far : pos b *ℤ (pos 2 *ℤ k +ℤ near a b) -ℤ (pos 2 *ℤ k *ℤ pos b +ℤ a) ≡ pos b *ℤ near a b -ℤ a
    as-far = by-ring (k ∷ a ∷ near a b ∷ pos b ∷ []) (search quote depth 30) tt

    twice : (j : ℤ) → pos 2 *ℤ k +ℤ pos 2 *ℤ j ≡ pos 2 *ℤ (k +ℤ j)
    twice j = rw (split k, split j) (simp ℤ⊖ (omega arith))

-- what is not negative stays so
pub near-natural : (n b : ℕ) → near (pos n) b ≡ pos (nat_abs (near (pos n) b))
unfolding near
near-natural n b = refl

-- no larger than a whole bound
pub near-bound : (a : ℤ) (b k : ℕ) → nat_abs a ≤ k * b → nat_abs (near a b) ≤ k
near-bound a b k h = elim (eq-zero-or-pos b) [
  | inl e ↦ rw (e, near-by-zero a) zero-le
  | inr p ↦ quotient-size p (near-half a b p) h
]

-- ---- of naturals once more, for the code

pub nearest-same : (n b m c : ℕ) → 0 < b → 0 < c → n * c ≡ m * b → nearest n b ≡ nearest m c
unfolding near
nearest-same n b m c B C e = ap nat_abs (near_same (pos n) b (pos m) c B C (ap pos (mul_comm c n ∙ e ∙ mul_comm m b)))

pub nearest-least : (n b k : ℕ) → 0 < b → k * b ≤ n → k ≤ nearest n b
unfolding near
nearest-least n b k p h = le_of_suc-le-suc (lt_of_mul-lt-mul_left b (omega (arith, high (nearest n b) (near-half (pos n) b p).off)))
  where
    high : (q : ℕ) → 2 * nat_abs (pos b *ℤ pos q -ℤ pos n) ≤ b → 2 * n ≤ 2 * (b * q) + b
    high q = simp ℤ⊖ (omega arith)

pub nearest-no-larger : (n b : ℕ) → nearest n b ≤ n
unfolding near
nearest-no-larger n b = elim (eq-zero-or-pos b) [
  | inl e ↦ rw (e, nearest-by-zero n) zero-le
  | inr p ↦ near-bound (pos n) b n (le-mul_of_pos_right n p)
]

-- ---- between two fractions

-- X is how far T + c lies above 2 c q
abbrev above : ℤ → ℕ → ℤ → ℤ
above T c q = T +ℤ pos c -ℤ pos (2 * c) *ℤ q

above-range : (T q : ℤ) (c : ℕ) → 2 * nat_abs (pos (2 * (2 * c)) *ℤ q -ℤ (pos 2 *ℤ T +ℤ pos 1)) ≤ 2 * (2 * c) → (pos 0 ≤ℤ above T c q) × (above T c q <ℤ pos (2 * c))
above-range T q c h = (low h, high h)
  where
    low : 2 * nat_abs (pos (2 * (2 * c)) *ℤ q -ℤ (pos 2 *ℤ T +ℤ pos 1)) ≤ 2 * (2 * c) → pos 0 ≤ℤ above T c q
    low = rw (split T, split q) (simp ℤ⊖ (omega arith))

    high : 2 * nat_abs (pos (2 * (2 * c)) *ℤ q -ℤ (pos 2 *ℤ T +ℤ pos 1)) ≤ 2 * (2 * c) → above T c q <ℤ pos (2 * c)
    high = rw (split T, split q) (simp ℤ⊖ (omega arith))

within-half : (X c k ρ : ℕ) → X < 2 * c → 0 < ρ → ρ < k → 2 * nat_abs (pos (k * X + ρ) -ℤ pos (k * c)) < 2 * c * k
within-half X c k ρ h p r = let m = mul-le-mul (le_refl k) h in simp ℤ⊖ (omega arith)

below : (n m : ℕ) → pos n <ℤ pos m → n < m
below n m = simp ℤ⊖ (omega arith)

-- between two neighbouring fractions of an even denominator b lies no half: near is the same all the way
pub near-between : (T : ℤ) (ρ k c : ℕ) → 0 < c → 0 < ρ → ρ < k → near (T *ℤ pos k +ℤ pos ρ) (2 * c * k) ≡ near (pos 2 *ℤ T +ℤ pos 1) (2 * (2 * c))
near-between T ρ k c z p r =
    let q = near (pos 2 *ℤ T +ℤ pos 1) (2 * (2 * c)) in
    let X = above T c q in
    let w = above-range T q c (near-half (pos 2 *ℤ T +ℤ pos 1) (2 * (2 * c)) (omega arith)).off in
    let n : ℕ = nat_abs X in
    let e : X ≡ pos n = 0≤→pos w.0 in
    let same : T *ℤ pos k +ℤ pos ρ -ℤ pos (2 * c * k) *ℤ q ≡ pos k *ℤ X +ℤ pos ρ -ℤ pos (k * c) = by-ring (T ∷ q ∷ pos k ∷ pos ρ ∷ pos c ∷ []) (search quote depth 30) tt in
    near-strict (T *ℤ pos k +ℤ pos ρ) (2 * c * k) q
    (subst⁻¹ (λ (y : ℤ). 2 * nat_abs y < 2 * c * k) (same ∙ ap (λ (x : ℤ). pos k *ℤ x +ℤ pos ρ -ℤ pos (k * c)) e)
    (within-half n c k ρ (below n (2 * c) (subst (λ (x : ℤ). x <ℤ pos (2 * c)) e w.1)) p r))

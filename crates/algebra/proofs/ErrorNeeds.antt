-- The identities of whole numbers that the error calculus needs, one for each of its steps.
--
-- Each is over plain numbers: x, y, u are the rounded numbers, N/D and M/C the fractions that they stand for, s, t scales.
-- `x D - s N` is how far x is from s N/D, times D. All go by differences; a ring normaliser would do as well.
use mathlib.Core.Path.{◌≡◌, sym, ap, ◌∙◌}
use Prim.Native.Nat.{ℕ, suc, ◌+◌, ◌*◌, ◌≤◌, ◌<◌}
use native.Mathlib.Nat.{eq_of_mul-eq-mul_right}
use native.Mathlib.Omega.{arith}
use lib.IntN.{ℤ, pos, nat_abs, ◌+ℤ◌, ◌-ℤ◌, ◌*ℤ◌}
use Rattle.algebra.proofs.Difference.{split, plus, minus, ℤ⊖}

-- ---- a positive factor cancels

pub cancel : (a b : ℤ) (n : ℕ) → 0 < n → a *ℤ pos n ≡ b *ℤ pos n → a ≡ b
cancel a b n p =
    rw (split a, split b)
    (simp ℤ⊖ λ e. eq_of_mul-eq-mul_right n p (plus a + minus b) (plus b + minus a) (omega arith))

-- ---- how far a result is off, by how far its parts are

pub sum-off :
    (x y N M : ℤ) (D C s : ℕ)
    → (x +ℤ y) *ℤ pos (D * C) -ℤ pos s *ℤ (N *ℤ pos C +ℤ M *ℤ pos D)
    ≡ (x *ℤ pos D -ℤ pos s *ℤ N) *ℤ pos C +ℤ (y *ℤ pos C -ℤ pos s *ℤ M) *ℤ pos D
sum-off x y N M D C s = rw (split x, split y, split N, split M) (simp ℤ⊖ (omega arith))

pub difference-off :
    (x y N M : ℤ) (D C s : ℕ)
    → (x -ℤ y) *ℤ pos (D * C) -ℤ pos s *ℤ (N *ℤ pos C -ℤ M *ℤ pos D)
    ≡ (x *ℤ pos D -ℤ pos s *ℤ N) *ℤ pos C -ℤ (y *ℤ pos C -ℤ pos s *ℤ M) *ℤ pos D
difference-off x y N M D C s = rw (split x, split y, split N, split M) (simp ℤ⊖ (omega arith))

pub times-off :
    (c x N : ℤ) (D s : ℕ) → c *ℤ x *ℤ pos D -ℤ pos s *ℤ (c *ℤ N) ≡ c *ℤ (x *ℤ pos D -ℤ pos s *ℤ N)
times-off c x N D s = rw (split c, split x, split N) (simp ℤ⊖ (omega arith))

-- two products whose factors p and q are off by p - p' and q - q'
cross-off :
    (p q p' q' : ℤ)
    → p *ℤ q -ℤ p' *ℤ q' ≡ (p -ℤ p') *ℤ q +ℤ p *ℤ (q -ℤ q') -ℤ (p -ℤ p') *ℤ (q -ℤ q')
cross-off p q p' q' = rw (split p, split q, split p', split q') (simp ℤ⊖ (omega arith))

pub apart : (x y : ℤ) (D C : ℕ) → x *ℤ y *ℤ pos (D * C) ≡ x *ℤ pos D *ℤ (y *ℤ pos C)
apart x y D C = rw (split x, split y) (simp ℤ⊖ (omega arith))

apart' : (N M : ℤ) (s t : ℕ) → pos (s * t) *ℤ (N *ℤ M) ≡ pos s *ℤ N *ℤ (pos t *ℤ M)
apart' N M s t = rw (split N, split M) (simp ℤ⊖ (omega arith))

pub product-off :
    (x y N M : ℤ) (D C s t : ℕ)
    → x *ℤ y *ℤ pos (D * C) -ℤ pos (s * t) *ℤ (N *ℤ M)
    ≡ (x *ℤ pos D -ℤ pos s *ℤ N) *ℤ (y *ℤ pos C)
    +ℤ x *ℤ pos D *ℤ (y *ℤ pos C -ℤ pos t *ℤ M)
    -ℤ (x *ℤ pos D -ℤ pos s *ℤ N) *ℤ (y *ℤ pos C -ℤ pos t *ℤ M)
product-off x y N M D C s t =
    ap (λ (z : ℤ). z -ℤ pos (s * t) *ℤ (N *ℤ M)) (apart x y D C)
    ∙ ap (λ (z : ℤ). x *ℤ pos D *ℤ (y *ℤ pos C) -ℤ z) (apart' N M s t)
    ∙ cross-off (x *ℤ pos D) (y *ℤ pos C) (pos s *ℤ N) (pos t *ℤ M)

-- y is x divided by k and rounded
pub near-off :
    (x y N : ℤ) (D s k : ℕ)
    → pos k *ℤ (y *ℤ pos D -ℤ pos s *ℤ N)
    ≡ (pos k *ℤ y -ℤ x) *ℤ pos D +ℤ (x *ℤ pos D -ℤ pos (s * k) *ℤ N)
near-off x y N D s k = rw (split x, split y, split N) (simp ℤ⊖ (omega arith))

pub near-back : (x y : ℤ) (k : ℕ) → pos k *ℤ y ≡ pos k *ℤ y -ℤ x +ℤ x
near-back x y k = rw (split x, split y) (simp ℤ⊖ (omega arith))

-- the fraction N/D over n, where d is n
pub over-off :
    (x N : ℤ) (D s d n : ℕ)
    → d ≡ n
    → x *ℤ pos (D * d) -ℤ pos (s * n) *ℤ N ≡ (x *ℤ pos D -ℤ pos s *ℤ N) *ℤ pos n
over-off x N D s d n p = rw (p, split x, split N) (simp ℤ⊖ (omega arith))

-- m s divided by L and rounded is u; the exact distance is t/b
pub quotient-off :
    (m u : ℤ) (L t b s : ℕ)
    → pos L *ℤ (u *ℤ pos (1 * t) -ℤ pos s *ℤ (m *ℤ pos b))
    ≡ (pos L *ℤ u -ℤ m *ℤ pos s) *ℤ pos t +ℤ m *ℤ pos s *ℤ (pos t -ℤ pos (L * b))
quotient-off m u L t b s = rw (split m, split u) (simp ℤ⊖ (omega arith))

-- one value written as N/D and as M/C
pub same-off :
    (x N M : ℤ) (D C s : ℕ)
    → N *ℤ pos C ≡ M *ℤ pos D
    → (x *ℤ pos C -ℤ pos s *ℤ M) *ℤ pos D ≡ (x *ℤ pos D -ℤ pos s *ℤ N) *ℤ pos C
same-off x N M D C s e =
    across x M C D s ∙ sym (ap (λ (z : ℤ). x *ℤ pos C *ℤ pos D -ℤ pos s *ℤ z) e) ∙ sym (across' x N C D s)
  where
    across : (x M : ℤ) (C D s : ℕ)
        → (x *ℤ pos C -ℤ pos s *ℤ M) *ℤ pos D ≡ x *ℤ pos C *ℤ pos D -ℤ pos s *ℤ (M *ℤ pos D)
    across x M C D s = rw (split x, split M) (simp ℤ⊖ (omega arith))

    across' : (x N : ℤ) (C D s : ℕ)
        → (x *ℤ pos D -ℤ pos s *ℤ N) *ℤ pos C ≡ x *ℤ pos C *ℤ pos D -ℤ pos s *ℤ (N *ℤ pos C)
    across' x N C D s = rw (split x, split N) (simp ℤ⊖ (omega arith))

-- c x at c times the scale
pub scale-off :
    (x N : ℤ) (D s c : ℕ)
    → x *ℤ pos c *ℤ pos D -ℤ pos (s * c) *ℤ N ≡ (x *ℤ pos D -ℤ pos s *ℤ N) *ℤ pos c
scale-off x N D s c = rw (split x, split N) (simp ℤ⊖ (omega arith))

-- ---- what is not off at all

pub const-off : (c : ℤ) (s : ℕ) → pos s *ℤ c *ℤ pos 1 -ℤ pos s *ℤ c ≡ pos 0
const-off c s = rw (split c) (simp ℤ⊖ (omega arith))

pub ratio-off : (a : ℤ) (d n : ℕ) → d ≡ n → a *ℤ pos d -ℤ pos n *ℤ a ≡ pos 0
ratio-off a d n p = rw (p, split a) (simp ℤ⊖ (omega arith))

pub self-off : (n : ℕ) → pos n -ℤ pos (n * 1) ≡ pos 0
self-off n = simp ℤ⊖ (omega arith)

-- ---- a distance t/b from L up to L + 1

pub near-whole : (L t b : ℕ) → L * b ≤ t → t ≤ suc L * b → nat_abs (pos t -ℤ pos (L * b)) ≤ b
near-whole L t b h k = simp ℤ⊖ (omega arith)

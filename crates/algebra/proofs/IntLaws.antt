-- The laws of ℤ that lib.IntN and lib.Signed lack: a commutative ring, its order, and the absolute value.
--
-- Linear ones, and products of two, go by differences (Difference.antt) and `omega`. A product of three is more than omega
-- multiplies out, so associativity compares the two halves of the difference one by one.
use mathlib.Core.Path.{◌≡◌, refl, ap₂}
use mathlib.Core.Logic.{◌↔◌}
use Prim.Native.Nat.{ℕ, suc, ◌+◌, ◌*◌, ◌≤◌, zero-le}
use native.Mathlib.Omega.{arith}
use lib.IntN.{ℤ, pos, negsuc, neg_ℤ, nat_abs, ◌+ℤ◌, ◌-ℤ◌, ◌*ℤ◌}
use lib.Signed.{◌≤ℤ◌}
use Rattle.algebra.proofs.Difference.{◌⊖◌, plus, minus, split, mul-⊖, ℤ⊖}

-- ---- the ring

mul-assoc-⊖ : (p n q m r s : ℕ) → (p ⊖ n) *ℤ (q ⊖ m) *ℤ (r ⊖ s) ≡ (p ⊖ n) *ℤ ((q ⊖ m) *ℤ (r ⊖ s))
mul-assoc-⊖ p n q m r s = simp mul-⊖ (ap₂ ◌⊖◌ (omega arith) (omega arith))

pub *ℤ-assoc : (a b c : ℤ) → a *ℤ b *ℤ c ≡ a *ℤ (b *ℤ c)
*ℤ-assoc a b c = rw (split a, split b, split c) (mul-assoc-⊖ (plus a) (minus a) (plus b) (minus b) (plus c) (minus c))

pub *ℤ-+ℤ : (a b c : ℤ) → a *ℤ (b +ℤ c) ≡ a *ℤ b +ℤ a *ℤ c
*ℤ-+ℤ a b c = rw (split a, split b, split c) (simp ℤ⊖ (omega arith))

pub +ℤ-*ℤ : (a b c : ℤ) → (a +ℤ b) *ℤ c ≡ a *ℤ c +ℤ b *ℤ c
+ℤ-*ℤ a b c = rw (split a, split b, split c) (simp ℤ⊖ (omega arith))

pub -ℤ-self : (a : ℤ) → a -ℤ a ≡ pos 0
-ℤ-self a = rw (split a) (simp ℤ⊖ (omega arith))

-- ---- the order

pub pos-≤ℤ : {m n : ℕ} → m ≤ n → pos m ≤ℤ pos n
pos-≤ℤ {m} {n} = simp ℤ⊖ (omega arith)

pub ≤ℤ-pos : {m n : ℕ} → pos m ≤ℤ pos n → m ≤ n
≤ℤ-pos {m} {n} = simp ℤ⊖ (omega arith)

-- a ≤ b exactly when b - a is not negative: what the certificates add up
pub ≤ℤ→slack : {a b : ℤ} → a ≤ℤ b → pos 0 ≤ℤ (b -ℤ a)
≤ℤ→slack {a} {b} = rw (split a, split b) (simp ℤ⊖ (omega arith))

pub slack→≤ℤ : {a b : ℤ} → pos 0 ≤ℤ (b -ℤ a) → a ≤ℤ b
slack→≤ℤ {a} {b} = rw (split a, split b) (simp ℤ⊖ (omega arith))

pub 0≤pos : (n : ℕ) → pos 0 ≤ℤ pos n
0≤pos n = pos-≤ℤ zero-le

-- what is not negative is a natural number
pub 0≤→pos : {a : ℤ} → pos 0 ≤ℤ a → a ≡ pos (nat_abs a)
0≤→pos {a = pos n} h = refl
0≤→pos {a = negsuc n} h = absurd h.le

pub 0≤-+ℤ : {a b : ℤ} → pos 0 ≤ℤ a → pos 0 ≤ℤ b → pos 0 ≤ℤ (a +ℤ b)
0≤-+ℤ {a} {b} = rw (split a, split b) (simp ℤ⊖ (omega arith))

pub 0≤-*ℤ : {a b : ℤ} → pos 0 ≤ℤ a → pos 0 ≤ℤ b → pos 0 ≤ℤ (a *ℤ b)
0≤-*ℤ {a} {b} h k = rw (0≤→pos h, 0≤→pos k) (0≤pos (nat_abs a * nat_abs b))

pub square : (a : ℤ) → pos 0 ≤ℤ (a *ℤ a)
square (pos n) = 0≤pos (n * n)
square (negsuc n) = 0≤pos (suc n * suc n)

-- ---- the absolute value

pub abs_neg : (a : ℤ) → nat_abs (neg_ℤ a) ≡ nat_abs a
abs_neg a = rw (split a) (simp ℤ⊖ (omega arith))

pub abs-+ : (a b : ℤ) → nat_abs (a +ℤ b) ≤ nat_abs a + nat_abs b
abs-+ a b = rw (split a, split b) (simp ℤ⊖ (omega arith))

pub abs-- : (a b : ℤ) → nat_abs (a -ℤ b) ≤ nat_abs a + nat_abs b
abs-- a b = rw (split a, split b) (simp ℤ⊖ (omega arith))

pub abs-swap : (a b : ℤ) → nat_abs (a -ℤ b) ≡ nat_abs (b -ℤ a)
abs-swap a b = rw (split a, split b) (simp ℤ⊖ (omega arith))

pub abs-* : (a b : ℤ) → nat_abs (a *ℤ b) ≡ nat_abs a * nat_abs b
abs-* (pos a) (pos b) = refl
abs-* (pos a) (negsuc b) = abs_neg (pos (a * suc b))
abs-* (negsuc a) (pos b) = abs_neg (pos (suc a * b))
abs-* (negsuc a) (negsuc b) = refl

pub abs-square : (a : ℤ) → a *ℤ a ≡ pos (nat_abs a * nat_abs a)
abs-square (pos n) = refl
abs-square (negsuc n) = refl

-- `neg_ℤ (pos n)` waits on n and no rule sees it: so the bound is first a whole number of its own
within_of : (z w : ℤ) (n : ℕ) → w ≡ pos n → (nat_abs z ≤ n) ↔ ((z ≤ℤ w) × (neg_ℤ w ≤ℤ z))
within_of z w n = rw (split z, split w) (simp ℤ⊖ (omega arith))

-- a number from its distance to another
pub apart : (w a : ℤ) → nat_abs w ≤ nat_abs (w -ℤ a) + nat_abs a
apart w a = rw (split w, split a) (simp ℤ⊖ (omega arith))

-- Nonlinear inequalities over ℤ by certificate: l ≤ r because r is l plus something that is plainly not negative.
--
-- The something is the type of a proof `pos 0 ≤ℤ s`, put together from
--   slackℕ h     h : m ≤ n            says  0 ≤ pos n - pos m
--   square a                          says  0 ≤ a · a          natural n  says  0 ≤ pos n
--   p ⊞ q, p ⊠ q, n ⊡ p               sum, product, n times p
-- and the normaliser checks that l + s is r. One line, with the atoms of Ring.antt:
--   poly≤ (a ∷ b ∷ []) (square (a -ℤ b)) (search quote depth 30) tt
-- To find s, write r - l as a sum of products of the slacks at hand, by hand or by computer algebra: only the result
-- stands here.
use mathlib.Core.Path.{subst}
use Prim.Native.Nat.{ℕ, ◌≤◌}
use native.Mathlib.Omega.{arith}
use lib.Dec.{T}
use lib.IntN.{ℤ, pos, ◌+ℤ◌, ◌-ℤ◌, ◌*ℤ◌}
use lib.Signed.{◌≤ℤ◌}
use Rattle.algebra.proofs.Difference.{split, ℤ⊖}
use Rattle.algebra.proofs.IntLaws.{≤ℤ→slack, 0≤-+ℤ, 0≤-*ℤ, 0≤pos, pos-≤ℤ, ≤ℤ-pos}
use Rattle.algebra.proofs.Polynomial.{Env}
use Rattle.algebra.proofs.Ring.{Sides, agree, by-ring}

-- ---- what is not negative

infixl 40 ◌⊞◌
infixl 41 ◌⊠◌
infixr 42 ◌⊡◌
pub slackℕ : {m n : ℕ} → m ≤ n → pos 0 ≤ℤ (pos n -ℤ pos m)
slackℕ h = ≤ℤ→slack (pos-≤ℤ h)

pub natural : (n : ℕ) → pos 0 ≤ℤ pos n
natural n = 0≤pos n

pub ◌⊞◌ : {a b : ℤ} → pos 0 ≤ℤ a → pos 0 ≤ℤ b → pos 0 ≤ℤ (a +ℤ b)
p ⊞ q = 0≤-+ℤ p q

pub ◌⊠◌ : {a b : ℤ} → pos 0 ≤ℤ a → pos 0 ≤ℤ b → pos 0 ≤ℤ (a *ℤ b)
p ⊠ q = 0≤-*ℤ p q

pub ◌⊡◌ : (n : ℕ) {a : ℤ} → pos 0 ≤ℤ a → pos 0 ≤ℤ (pos n *ℤ a)
n ⊡ p = 0≤-*ℤ (0≤pos n) p

-- ---- the certificates

added : (l s : ℤ) → pos 0 ≤ℤ s → l ≤ℤ (l +ℤ s)
added l s = rw (split l, split s) (simp ℤ⊖ (omega arith))

pub poly≤ : {l r s : ℤ} (ρ : Env) → pos 0 ≤ℤ s → (q : Sides ρ (l +ℤ s) r) → T (agree q) → l ≤ℤ r
poly≤ {l} {r} {s} ρ h q t = subst (λ (z : ℤ). l ≤ℤ z) (by-ring ρ q t) (added l s h)

-- the same between naturals
pub poly≤ℕ : {m n : ℕ} {s : ℤ} (ρ : Env) → pos 0 ≤ℤ s → (q : Sides ρ (pos m +ℤ s) (pos n)) → T (agree q) → m ≤ n
poly≤ℕ ρ h q t = ≤ℤ-pos (poly≤ ρ h q t)

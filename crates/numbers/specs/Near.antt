-- near(a/b): the nearest whole number to a/b, an exact half to the even neighbour. By 0 it is 0.
use Rattle.std.specs.Prelude.{◌≡◌, cond, ℕ, suc, ◌+◌, ◌-◌, ◌*◌, ◌/◌, ◌%◌, eqb, ℤ, pos, negsuc, neg_ℤ, nat_abs, ◌-ℤ◌, ◌*ℤ◌}
use Rattle.algebra.specs.Rounding.{Half}

-- n/b and a half, rounded down; and one less where nothing was cut off, so that n/b is an exact half, and that is odd
unfoldable pub nearest : ℕ → ℕ → ℕ
nearest n b = let up = (2 * n + b) / (2 * b) in cond (eqb (up * (2 * b)) (2 * n + b)) (up - up % 2) up

-- the same on both sides of zero
unfoldable pub near : ℤ → ℕ → ℤ
near (pos n) b = pos (nearest n b)
near (negsuc n) b = neg_ℤ (pos (nearest (suc n) b))

-- twice a whole number
abbrev pub Even : ℤ → Type 0
Even q = (h : ℤ) × (q ≡ pos 2 *ℤ h)

-- what near(a/b) is (laws `near-is`, `near-only`): off by at most a half, and even where it is off by exactly a half
pub record IsNear (a : ℤ) (b : ℕ) (q : ℤ) : Type 0 where
  pub half : Half a b q
  pub even : 2 * nat_abs (pos b *ℤ q -ℤ a) ≡ b → Even q

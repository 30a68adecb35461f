-- The root of n: the greatest whole number whose square is at most n.
use Rattle.std.specs.Prelude.{cond, ℕ, zero, suc, ◌+◌, ◌*◌, ◌/◌, ◌≤◌, ◌<◌, leb}

-- what a root is: r² ≤ n < (r + 1)²
pub record IsRoot (n r : ℕ) : Type 0 where
  pub below : r * r ≤ n
  pub above : n < (r + 1) * (r + 1)

-- the root of n from half the root of n/4: twice that, or one more
unfoldable pub refine : ℕ → ℕ → ℕ
refine n r = cond (leb ((2 * r + 1) * (2 * r + 1)) n) (2 * r + 1) (2 * r)

-- the same down to 0, which a quarter reaches in fewer than n steps
unfoldable pub root_in : ℕ → ℕ → ℕ
root_in zero n = 0
root_in (suc k) zero = 0
root_in (suc k) (suc n) = refine (suc n) (root_in k (suc n / 4))

unfoldable pub root : ℕ → ℕ
root n = root_in n n

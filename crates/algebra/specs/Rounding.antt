-- One rounding step, as abstract as the error calculus needs it.
use Rattle.std.specs.Prelude.{ℕ, ◌*◌, ◌≤◌, ℤ, pos, nat_abs, ◌-ℤ◌, ◌*ℤ◌}

-- y is off from a/b by at most a half. Nothing in the calculus uses more of a rounding than this, so the rule for
-- exact halves can change. (At b = 0 it says that a is 0: the uses have a positive b.)
pub record Half (a : ℤ) (b : ℕ) (y : ℤ) : Type 0 where
  pub off : 2 * nat_abs (pos b *ℤ y -ℤ a) ≤ b

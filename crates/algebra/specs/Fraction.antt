-- Unreduced fractions: a whole number over a positive natural, so that an exact formula reads like the paper.
--
-- Nothing is ever reduced: two fractions are compared by value (`◌≈◌`), never as records. The operations are shut; the
-- error calculus opens them once, and later proofs do not.
use Rattle.std.specs.Prelude.{◌≡◌, ℕ, ◌*◌, ◌≤◌, ◌<◌, max, ℤ, pos, neg_ℤ, nat_abs, ◌+ℤ◌, ◌-ℤ◌, ◌*ℤ◌}
use Rattle.std.proofs.Common.{mul-pos, arith, lit<}

-- num / den
pub record Fraction : Type 0 where
  pub num : ℤ
  pub den : ℕ
  pub den_pos : 0 < den

-- A positive fraction, top / bottom: what can be divided by. Distances are of this kind, in any unit.
pub record Positive : Type 0 where
  pub top : ℕ
  pub bottom : ℕ
  pub top_pos : 0 < top
  pub bottom_pos : 0 < bottom

infixl 6 ◌+ᶠ◌ ◌-ᶠ◌
infixl 7 ◌*ᶠ◌ ◌·ᶠ◌ ◌/ᶠ◌ ◌÷ᶠ◌
infix 4 ◌≈◌
-- a natural as a divisor: itself when positive. (1 for 0, so that a numeral needs no proof beside it.)
abbrev pub divisor : ℕ → ℕ
divisor n = max 1 n

pub divisor_pos : (n : ℕ) → 0 < divisor n
divisor_pos n = omega arith

-- a whole number
unfoldable pub whole : ℤ → Fraction
whole z = record { num = z; den = 1; den_pos = lit< tt }

-- a / n, as 6078 / 10000
unfoldable pub ratio : ℤ → ℕ → Fraction
ratio a n = record { num = a; den = divisor n; den_pos = divisor_pos n }

-- a whole positive number
unfoldable pub wholly : (n : ℕ) → 0 < n → Positive
wholly n p = record { top = n; bottom = 1; top_pos = p; bottom_pos = lit< tt }

-- n times a positive fraction, for a positive n
abbrev pub timesᵖ : ℕ → Positive → Positive
timesᵖ n D =
    record {
      top = divisor n * D.top;
      bottom = D.bottom;
      top_pos = mul-pos (divisor_pos n) D.top_pos;
      bottom_pos = D.bottom_pos;
    }

unfoldable pub ◌+ᶠ◌ : Fraction → Fraction → Fraction
X +ᶠ Y =
    record {
      num = X.num *ℤ pos Y.den +ℤ Y.num *ℤ pos X.den;
      den = X.den * Y.den;
      den_pos = mul-pos X.den_pos Y.den_pos;
    }

unfoldable pub negᶠ : Fraction → Fraction
negᶠ X = record { num = neg_ℤ X.num; den = X.den; den_pos = X.den_pos }

unfoldable pub ◌-ᶠ◌ : Fraction → Fraction → Fraction
X -ᶠ Y =
    record {
      num = X.num *ℤ pos Y.den -ℤ Y.num *ℤ pos X.den;
      den = X.den * Y.den;
      den_pos = mul-pos X.den_pos Y.den_pos;
    }

unfoldable pub ◌*ᶠ◌ : Fraction → Fraction → Fraction
X *ᶠ Y =
    record { num = X.num *ℤ Y.num; den = X.den * Y.den; den_pos = mul-pos X.den_pos Y.den_pos }

-- c times X, for a whole number c
unfoldable pub ◌·ᶠ◌ : ℤ → Fraction → Fraction
c ·ᶠ X = record { num = c *ℤ X.num; den = X.den; den_pos = X.den_pos }

-- X over a positive natural
unfoldable pub ◌/ᶠ◌ : Fraction → ℕ → Fraction
X /ᶠ n = record { num = X.num; den = X.den * divisor n; den_pos = mul-pos X.den_pos (divisor_pos n) }

-- X over a positive fraction
unfoldable pub ◌÷ᶠ◌ : Fraction → Positive → Fraction
X ÷ᶠ D =
    record {
      num = X.num *ℤ pos D.bottom;
      den = X.den * D.top;
      den_pos = mul-pos X.den_pos D.top_pos;
    }

-- X and Y have one value, by multiplying across
pub record ◌≈◌ (X Y : Fraction) : Type 0 where
  pub cross : X.num *ℤ pos Y.den ≡ Y.num *ℤ pos X.den

-- the whole number z lies within g of X
pub record Within (g : ℕ) (z : ℤ) (X : Fraction) : Type 0 where
  pub off : nat_abs (z *ℤ pos X.den -ℤ X.num) ≤ g * X.den

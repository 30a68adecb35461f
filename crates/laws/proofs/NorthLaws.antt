-- Why sin 2φ times the north unit vector n̂ is 2 sin φ (ẑ - sin φ r̂), as the formula of the permanent displacement has it.
--
-- For a mark (x, y, z) at its true distance d, d² = x² + y² + z², r̂ is (x, y, z)/d and sin φ is z/d. The vector ẑ - sin φ r̂, times d², is
-- (-x z, -y z, d² - z²). It is perpendicular to r̂, lies in the plane of r̂ and ẑ, and is cos φ long: so it is cos φ n̂.
use mathlib.Core.Path.{◌≡◌}
use mathlib.Core.List.{[], ◌∷◌}
use lib.IntN.{ℤ, pos, neg_ℤ, ◌+ℤ◌, ◌-ℤ◌, ◌*ℤ◌}
use Rattle.algebra.specs.Fraction.{Fraction, ◌≈◌, ◌*ᶠ◌, ◌·ᶠ◌}
use Rattle.algebra.proofs.Ring.{quote, by-ring}
use Rattle.algebra.proofs.SameValue.{≈-refl, ≈-trans, mul-≈}

abbrev pub distance² : ℤ → ℤ → ℤ → ℤ
distance² x y z = x *ℤ x +ℤ y *ℤ y +ℤ z *ℤ z

pub perpendicular :
    (x y z : ℤ) → x *ℤ neg_ℤ (x *ℤ z) +ℤ y *ℤ neg_ℤ (y *ℤ z) +ℤ z *ℤ (distance² x y z -ℤ z *ℤ z) ≡ pos 0
perpendicular x y z = by-ring (x ∷ y ∷ z ∷ []) (search quote depth 30) tt

-- its length squared, times d⁴, is d² (d² - z²), which is d⁴ cos² φ
pub cosine-long :
    (x y z : ℤ)
    → distance² (neg_ℤ (x *ℤ z)) (neg_ℤ (y *ℤ z)) (distance² x y z -ℤ z *ℤ z)
    ≡ distance² x y z *ℤ (distance² x y z -ℤ z *ℤ z)
cosine-long x y z = by-ring (x ∷ y ∷ z ∷ []) (search quote depth 30) tt

regrouped : (s c n : Fraction) → pos 2 ·ᶠ (s *ᶠ c) *ᶠ n ≈ pos 2 ·ᶠ s *ᶠ (c *ᶠ n)
unfolding ◌*ᶠ◌ ◌·ᶠ◌
regrouped s c n =
    record { cross = by-ring (s.num ∷ c.num ∷ n.num ∷ pos s.den ∷ pos c.den ∷ pos n.den ∷ []) (search quote depth 30) tt }

-- a component: where cos φ n is w, sin 2φ n = 2 sin φ cos φ n is 2 sin φ w
pub twice-latitude : (s c n w : Fraction) → c *ᶠ n ≈ w → pos 2 ·ᶠ (s *ᶠ c) *ᶠ n ≈ pos 2 ·ᶠ s *ᶠ w
twice-latitude s c n w e = ≈-trans (regrouped s c n) (mul-≈ (≈-refl (pos 2 ·ᶠ s)) e)

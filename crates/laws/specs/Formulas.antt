-- The conventional formulas of Chapter 7 as exact fractions: the permanent displacement (14a), (14b), the tide of degree two (5) and of degree three (6).
--
-- Nothing is rounded here. The mark and the body vectors are whole numbers; the distances are any positive fractions, so that the whole
-- distances of 01 are one choice and the real ones another. Displacements are in metres, and `grains` of them in grains.
use Rattle.std.specs.Prelude.{ℕ, ◌*◌, ◌^◌, pos, neg_ℤ}
use Rattle.algebra.specs.Fraction.{Fraction, Positive, Within, timesᵖ, whole, ratio, ◌+ᶠ◌, ◌-ᶠ◌, ◌*ᶠ◌, ◌·ᶠ◌, ◌/ᶠ◌, ◌÷ᶠ◌}
use Rattle.mark.specs.declared.Vec3.{Vec3}
pub use Rattle.mark.specs.Mark.{metre}

-- ---- vectors of fractions

pub record Vector : Type 0 where
  pub x : Fraction
  pub y : Fraction
  pub z : Fraction

infixl 6 ◌+ᵛ◌ ◌-ᵛ◌
infixl 7 ◌*ᵛ◌
abbrev pub vector : Fraction → Fraction → Fraction → Vector
vector a b c = record { x = a; y = b; z = c }

abbrev pub ◌+ᵛ◌ : Vector → Vector → Vector
v +ᵛ w = vector (v.x +ᶠ w.x) (v.y +ᶠ w.y) (v.z +ᶠ w.z)

abbrev pub ◌-ᵛ◌ : Vector → Vector → Vector
v -ᵛ w = vector (v.x -ᶠ w.x) (v.y -ᶠ w.y) (v.z -ᶠ w.z)

abbrev pub ◌*ᵛ◌ : Fraction → Vector → Vector
c *ᵛ v = vector (c *ᶠ v.x) (c *ᶠ v.y) (c *ᶠ v.z)

unfoldable pub dot : Vector → Vector → Fraction
dot v w = v.x *ᶠ w.x +ᶠ v.y *ᶠ w.y +ᶠ v.z *ᶠ w.z

-- a whole vector over its distance, both in one unit: the unit vectors r̂ of the mark and R̂ of a body
abbrev pub direction : Vec3 → Positive → Vector
direction v D = vector (whole v.x ÷ᶠ D) (whole v.y ÷ᶠ D) (whole v.z ÷ᶠ D)

-- metres as grains, `metre` of them each
abbrev pub grains : Vector → Vector
grains v = vector (pos metre ·ᶠ v.x) (pos metre ·ᶠ v.y) (pos metre ·ᶠ v.z)

-- each whole component lies within g of the exact one
pub record Close (g : ℕ) (v : Vec3) (w : Vector) : Type 0 where
  pub x : Within g v.x w.x
  pub y : Within g v.y w.y
  pub z : Within g v.z w.z

-- the published bound: both tides lie within 100 grains of the formulas
abbrev pub bound : ℕ
bound = 100

-- P2(s) = (3 s² - 1)/2
unfoldable pub P2 : Fraction → Fraction
P2 s = (pos 3 ·ᶠ (s *ᶠ s) -ᶠ whole (pos 1)) /ᶠ 2

-- ---- the permanent displacement, tide-free to mean-tide

-- (14a) upward, metres: (-0.1206 + 0.0001 P) P
unfoldable pub radial : Fraction → Fraction
radial P = (ratio (neg_ℤ (pos 1206)) 10000 +ᶠ ratio (pos 1) 10000 *ᶠ P) *ᶠ P

-- (14b) northward, metres, to be multiplied by sin 2φ: -0.0252 - 0.0001 P
unfoldable pub north : Fraction → Fraction
north P = ratio (neg_ℤ (pos 252)) 10000 -ᶠ ratio (pos 1) 10000 *ᶠ P

-- ẑ, to the pole
abbrev pub pole : Vector
pole = vector (whole (pos 0)) (whole (pos 0)) (whole (pos 1))

-- sin φ, φ the geocentric latitude, is the z of r̂
abbrev pub sine : Vector → Fraction
sine r = r.z

-- sin 2φ times the north unit vector n̂, which is 2 sin φ (ẑ - sin φ r̂): ẑ less its part along r̂ points north and is cos φ long, so it
-- is cos φ n̂, and sin 2φ is 2 sin φ cos φ (proved in NorthLaws)
abbrev pub northward : Vector → Vector
northward r = (pos 2 ·ᶠ sine r) *ᵛ (pole -ᵛ sine r *ᵛ r)

-- both as a Cartesian vector, metres, at the mark's unit vector r̂
abbrev pub permanent_at : Vector → Vector
permanent_at r =
    let P = P2 (sine r) in
    radial P *ᵛ r +ᵛ north P *ᵛ northward r

-- grains, at a mark m in metres whose distance is L metres
abbrev pub permanent_formula : Vec3 → Positive → Vector
permanent_formula m L = grains (permanent_at (direction m L))

-- ---- the solid tide

-- Table 1.1: Re, metres
unfoldable pub Re : Fraction
Re = ratio (pos 63781366) 10

-- what the formula takes of a body: its GM over the Earth's, and the metres in the unit of its vector and distance
pub record Puller : Type 0 where
  pub gm : Fraction
  pub unit : ℕ

-- Table 1.1: the Moon's ratio is printed. Its vectors are in metres
abbrev pub the_moon : Puller
the_moon = record { gm = ratio (pos 123000371) (10 ^ 10); unit = 1 }

-- Table 1.1: the Sun's GM over the Earth's, m³/s². Its vectors are in kilometres: the unit vector does not see that, K does
abbrev pub the_sun : Puller
the_sun = record { gm = ratio (pos (132712442099 * 10 ^ 9)) 398600441800000; unit = 1000 }

-- a distance in metres, from one in units of n metres
abbrev pub in_metres : ℕ → Positive → Positive
in_metres n R = timesᵖ n R

-- K = (GM ratio) Re⁴/R³, metres, at R metres
unfoldable pub strength_at : Fraction → Positive → Fraction
strength_at gm R = gm *ᶠ (Re *ᶠ Re *ᶠ Re *ᶠ Re) ÷ᶠ R ÷ᶠ R ÷ᶠ R

-- K3 = (GM ratio) Re⁵/R⁴, metres, at R metres
unfoldable pub strength_three_at : Fraction → Positive → Fraction
strength_three_at gm R = gm *ᶠ (Re *ᶠ Re *ᶠ Re *ᶠ Re *ᶠ Re) ÷ᶠ R ÷ᶠ R ÷ᶠ R ÷ᶠ R

-- ---- degree two

-- h2 = 0.6078 - 0.0006 P, upward
unfoldable pub h2 : Fraction → Fraction
h2 P = ratio (pos 6078) 10000 -ᶠ ratio (pos 6) 10000 *ᶠ P

-- l2 = 0.0847 + 0.0002 P, sideways
unfoldable pub l2 : Fraction → Fraction
l2 P = ratio (pos 847) 10000 +ᶠ ratio (pos 2) 10000 *ᶠ P

-- (5): K (h r̂ (3 (R̂·r̂)² - 1)/2 + 3 l (R̂·r̂) (R̂ - (R̂·r̂) r̂)), in the unit of K, with h and l at P = (3 sin²φ - 1)/2 of the mark
abbrev pub degree_two : Fraction → Vector → Vector → Vector
degree_two K r R =
    let c = dot r R in
    let P = P2 (sine r) in
    K *ᵛ ((h2 P *ᶠ P2 c) *ᵛ r +ᵛ (pos 3 ·ᶠ (l2 P *ᶠ c)) *ᵛ (R -ᵛ c *ᵛ r))

-- one body's, metres, at r̂: its vector v and distance R in its own unit
abbrev pub pulled : Puller → Vector → Vec3 → Positive → Vector
pulled b r v R = degree_two (strength_at b.gm (in_metres b.unit R)) r (direction v R)

-- ---- degree three

-- P3(c) = (5 c³ - 3 c)/2
unfoldable pub P3 : Fraction → Fraction
P3 c = (pos 5 ·ᶠ (c *ᶠ c *ᶠ c) -ᶠ pos 3 ·ᶠ c) /ᶠ 2

-- its slope: (15 c² - 3)/2
unfoldable pub slope3 : Fraction → Fraction
slope3 c = (pos 15 ·ᶠ (c *ᶠ c) -ᶠ whole (pos 3)) /ᶠ 2

-- h3 = 0.292, upward
unfoldable pub h3 : Fraction
h3 = ratio (pos 292) 1000

-- l3 = 0.015, sideways
unfoldable pub l3 : Fraction
l3 = ratio (pos 15) 1000

-- (6): K3 (h3 r̂ (5 (R̂·r̂)³ - 3 (R̂·r̂))/2 + l3 (15 (R̂·r̂)² - 3)/2 (R̂ - (R̂·r̂) r̂)), in the unit of K3
abbrev pub degree_three : Fraction → Vector → Vector → Vector
degree_three K r R =
    let c = dot r R in
    K *ᵛ ((h3 *ᶠ P3 c) *ᵛ r +ᵛ (l3 *ᶠ slope3 c) *ᵛ (R -ᵛ c *ᵛ r))

-- one body's, metres, at r̂
abbrev pub pulled_three : Puller → Vector → Vec3 → Positive → Vector
pulled_three b r v R = degree_three (strength_three_at b.gm (in_metres b.unit R)) r (direction v R)

-- ---- both

-- grains: degree two and degree three of the Moon plus degree two of the Sun, at a mark m of distance L metres, the Moon's vector v at R metres, the
-- Sun's w at S kilometres
abbrev pub solid_formula : Vec3 → Positive → Vec3 → Positive → Vec3 → Positive → Vector
solid_formula m L v R w S =
    let r = direction m L in
    grains (pulled the_moon r v R +ᵛ pulled_three the_moon r v R +ᵛ pulled the_sun r w S)

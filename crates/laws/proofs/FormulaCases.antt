-- The formulas at five marks and five pairs of bodies, to be held against another program: each component of the exact fraction in
-- billionths of a grain, rounded down.
--
-- second/exact.py of the second program gives the same numbers: floor(x * 10**9) for x in permanent(mark, l), and in
-- tide(mark, moon, sun, l, r, s). The distances l, r and s are the whole ones; at three of the marks there are also statements at others.
use mathlib.Core.Path.{◌≡◌, refl, sym}
use Prim.Native.Nat.{ℕ, ◌+◌, ◌*◌, ◌/◌, ◌^◌, ◌<◌}
use lib.Dec.{T, leb, ltb, leb→le, ltb→lt, lit<}
use lib.IntN.{ℤ, pos, negsuc, neg_ℤ}
use Rattle.algebra.specs.Fraction.{Fraction, Positive, whole, ratio, wholly, ◌+ᶠ◌, ◌-ᶠ◌, ◌*ᶠ◌, ◌·ᶠ◌, ◌/ᶠ◌, ◌÷ᶠ◌}
use Rattle.numbers.proofs.RootLaws.{root-same}
use Rattle.mark.specs.declared.Vec3.{Vec3}
use Rattle.mark.specs.Mark.{vec, squares, length_of}
use Rattle.laws.specs.Formulas.{Vector, dot, P2, P3, slope3, radial, north, Re, strength_at, strength_three_at, h2, l2, h3, l3}
use Rattle.laws.specs.Formulas.{permanent_formula, solid_formula}

-- ---- the inputs

-- marks, metres
abbrev pub equator : Vec3
equator = vec (pos 6378137) (pos 0) (pos 0)

abbrev pub pole : Vec3
pole = vec (pos 0) (pos 0) (pos 6356752)

abbrev pub east : Vec3
east = vec (pos 4075578) (pos 931853) (pos 4801570)

abbrev pub west : Vec3
west = vec (pos 1130000) (neg_ℤ (pos 4830000)) (pos 3994000)

abbrev pub south : Vec3
south = vec (neg_ℤ (pos 2000000)) (pos 5300000) (neg_ℤ (pos 2900000))

-- Moons, metres
abbrev pub equator-moon : Vec3
equator-moon = vec (pos 384400000) (pos 0) (pos 0)

abbrev pub pole-moon : Vec3
pole-moon = vec (pos 200000000) (neg_ℤ (pos 250000000)) (pos 170000000)

abbrev pub east-moon : Vec3
east-moon = vec (neg_ℤ (pos 179996232)) (neg_ℤ (pos 312468450)) (neg_ℤ (pos 169288919))

abbrev pub west-moon : Vec3
west-moon = vec (pos 300396717) (pos 243238281) (pos 120548076)

abbrev pub south-moon : Vec3
south-moon = vec (pos 0) (pos 0) (pos 350000000)

-- Suns, kilometres
abbrev pub equator-sun : Vec3
equator-sun = vec (pos 149597870) (pos 0) (pos 0)

abbrev pub pole-sun : Vec3
pole-sun = vec (neg_ℤ (pos 100000000)) (pos 90000000) (pos 60000000)

abbrev pub east-sun : Vec3
east-sun = vec (pos 137859927) (pos 54228128) (pos 23509422)

abbrev pub west-sun : Vec3
west-sun = vec (neg_ℤ (pos 54537460)) (pos 130244288) (pos 56463429)

abbrev pub south-sun : Vec3
south-sun = vec (neg_ℤ (pos 1)) (pos 146000000) (neg_ℤ (pos 2))

-- their whole lengths, by what a root is
is-length : (v : Vec3) (l : ℕ) → T (leb (l * l) (squares v)) → T (ltb (squares v) ((l + 1) * (l + 1))) → length_of v ≡ l
unfolding length_of
is-length v l a b = sym (root-same (squares v) l (record { below = leb→le (l * l) (squares v) a; above = ltb→lt (squares v) ((l + 1) * (l + 1)) b }))

pub marks-lengths :
    (length_of equator ≡ 6378137)
    × (length_of pole ≡ 6356752)
    × (length_of east ≡ 6366612)
    × (length_of west ≡ 6368503)
    × (length_of south ≡ 6363961)
unfolding squares
marks-lengths = (
  is-length equator 6378137 tt tt,
  is-length pole 6356752 tt tt,
  is-length east 6366612 tt tt,
  is-length west 6368503 tt tt,
  is-length south 6363961 tt tt,
)

pub moons-lengths :
    (length_of equator-moon ≡ 384400000)
    × (length_of pole-moon ≡ 362491379)
    × (length_of east-moon ≡ 398364046)
    × (length_of west-moon ≡ 404888734)
    × (length_of south-moon ≡ 350000000)
unfolding squares
moons-lengths = (
  is-length equator-moon 384400000 tt tt,
  is-length pole-moon 362491379 tt tt,
  is-length east-moon 398364046 tt tt,
  is-length west-moon 404888734 tt tt,
  is-length south-moon 350000000 tt tt,
)

pub suns-lengths :
    (length_of equator-sun ≡ 149597870)
    × (length_of pole-sun ≡ 147309198)
    × (length_of east-sun ≡ 149995807)
    × (length_of west-sun ≡ 152072442)
    × (length_of south-sun ≡ 146000000)
unfolding squares
suns-lengths = (
  is-length equator-sun 149597870 tt tt,
  is-length pole-sun 147309198 tt tt,
  is-length east-sun 149995807 tt tt,
  is-length west-sun 152072442 tt tt,
  is-length south-sun 146000000 tt tt,
)

-- ---- rounding down

-- n/d rounded down; of a negative number -(n + 1), one below -(n/d rounded down)
unfoldable pub down : ℤ → ℕ → ℤ
down (pos n) d = pos (n / d)
down (negsuc n) d = negsuc (n / d)

unfoldable pub billionths : Fraction → ℤ
unfolding ◌·ᶠ◌
billionths X = down (pos (10 ^ 9) ·ᶠ X).num X.den

-- with all that the formulas are made of open
unfoldable pub floors : Vector → Vec3
unfolding down billionths dot P2 P3 slope3 radial north Re strength_at strength_three_at h2 l2 h3 l3 whole ratio wholly ◌+ᶠ◌ ◌-ᶠ◌ ◌*ᶠ◌ ◌·ᶠ◌ ◌/ᶠ◌ ◌÷ᶠ◌
floors v = vec (billionths v.x) (billionths v.y) (billionths v.z)

-- ---- the permanent displacement

pub permanent-equator :
    floors (permanent_formula equator (wholly 6378137 (lit< tt)))
    ≡ vec (pos 88134825000000000) (pos 0) (pos 0)
unfolding floors
permanent-equator = refl

pub permanent-pole :
    floors (permanent_formula pole (wholly 6356752 (lit< tt)))
    ≡ vec (pos 0) (pos 0) (neg_ℤ (pos 176050500000000000))
unfolding floors
permanent-pole = refl

pub permanent-east :
    floors (permanent_formula east (wholly 6366612 (lit< tt)))
    ≡ vec (neg_ℤ (pos 12975823395679392)) (neg_ℤ (pos 2966833160531839)) (neg_ℤ (pos 70898642456082781))
unfolding floors
permanent-east = refl

pub permanent-west :
    floors (permanent_formula west (wholly 6368503 (lit< tt)))
    ≡ vec (pos 2327962825880175) (neg_ℤ (pos 9950495972567474)) (neg_ℤ (pos 37968009432861044))
unfolding floors
permanent-west = refl

pub permanent-south :
    floors (permanent_formula south (wholly 6363961 (lit< tt)))
    ≡ vec (neg_ℤ (pos 15242260778136625)) (pos 40391991062062054) (pos 11428156319889521)
unfolding floors
permanent-south = refl

-- ---- the solid tide: degree two of both bodies with h and l at the mark's latitude, degree three of the Moon

pub solid-equator :
    floors (solid_formula equator (wholly 6378137 (lit< tt)) equator-moon (wholly 384400000 (lit< tt)) equator-sun (wholly 149597870 (lit< tt)))
    ≡ vec (pos 467141876138001821) (pos 0) (pos 0)
unfolding floors
solid-equator = refl

pub solid-pole :
    floors (solid_formula pole (wholly 6356752 (lit< tt)) pole-moon (wholly 362491379 (lit< tt)) pole-sun (wholly 147309198 (lit< tt)))
    ≡ vec (pos 23426884709654571) (neg_ℤ (pos 35490841926869462)) (neg_ℤ (pos 104317708924981109))
unfolding floors
solid-pole = refl

pub solid-east :
    floors (solid_formula east (wholly 6366612 (lit< tt)) east-moon (wholly 398364046 (lit< tt)) east-sun (wholly 149995807 (lit< tt)))
    ≡ vec (pos 105580702283654727) (pos 89963403223824012) (pos 72444204853607509)
unfolding floors
solid-east = refl

pub solid-west :
    floors (solid_formula west (wholly 6368503 (lit< tt)) west-moon (wholly 404888734 (lit< tt)) west-sun (wholly 152072442 (lit< tt)))
    ≡ vec (neg_ℤ (pos 30966026383394132)) (pos 91762918100209888) (neg_ℤ (pos 118578502932781210))
unfolding floors
solid-west = refl

pub solid-south :
    floors (solid_formula south (wholly 6363961 (lit< tt)) south-moon (wholly 350000000 (lit< tt)) south-sun (wholly 146000000 (lit< tt)))
    ≡ vec (pos 23575114523272389) (neg_ℤ (pos 7759805595583156)) (neg_ℤ (pos 46085604778943713))
unfolding floors
solid-south = refl

-- ---- at other distances, each from the whole one up to, but not including, one more

-- a distance in thousandths
abbrev thousandths : (n : ℕ) → 0 < n → Positive
thousandths n p = record { top = n; bottom = 1000; top_pos = p; bottom_pos = lit< tt }

-- east: next to the real distances

pub permanent-east-real :
    floors (permanent_formula east (thousandths 6366612954 (lit< tt)))
    ≡ vec (neg_ℤ (pos 12975800701998624)) (neg_ℤ (pos 2966827971777138)) (neg_ℤ (pos 70898607330532120))
unfolding floors
permanent-east-real = refl

pub solid-east-real :
    floors (solid_formula east (thousandths 6366612954 (lit< tt)) east-moon (thousandths 398364046916 (lit< tt)) east-sun (thousandths 149995807480 (lit< tt)))
    ≡ vec (pos 105580636164140905) (pos 89963377478924572) (pos 72444135550151784)
unfolding floors
solid-east-real = refl

-- west: the mark's a half more than the whole one, the Moon's next to the real one, the Sun's just under one more

pub permanent-west-mixed :
    floors (permanent_formula west (thousandths 6368503500 (lit< tt)))
    ≡ vec (pos 2327964729823159) (neg_ℤ (pos 9950504110660056)) (neg_ℤ (pos 37967999059443486))
unfolding floors
permanent-west-mixed = refl

pub solid-west-mixed :
    floors (solid_formula west (thousandths 6368503500 (lit< tt)) west-moon (thousandths 404888734784 (lit< tt)) west-sun (thousandths 152072442999 (lit< tt)))
    ≡ vec (neg_ℤ (pos 30966025135897239)) (pos 91762915867517932) (neg_ℤ (pos 118578496623626942))
unfolding floors
solid-west-mixed = refl

-- south: all just under one more

pub permanent-south-under :
    floors (permanent_formula south (thousandths 6363961999 (lit< tt)))
    ≡ vec (neg_ℤ (pos 15242262292756213)) (pos 40391995075803962) (pos 11428148847297043)
unfolding floors
permanent-south-under = refl

pub solid-south-under :
    floors (solid_formula south (thousandths 6363961999 (lit< tt)) south-moon (thousandths 350000000999 (lit< tt)) south-sun (thousandths 146000000999 (lit< tt)))
    ≡ vec (pos 23575132445614941) (neg_ℤ (pos 7759863563248009)) (neg_ℤ (pos 46085565119601761))
unfolding floors
solid-south-under = refl

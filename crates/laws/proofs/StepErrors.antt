-- How far each step of the tides is off, in thousandths of the step's unit (1/E, or a grain), from the errors of what the step uses.
--
-- u, d and q are the errors of the starts: the mark's unit vector, a body's, and its R0/R. The chains hold for any of them: the whole distances are
-- one choice, the real ones another. The steps have the paper's names; the sizes are in grains, those of unit vectors and ratios in units of 1/E.
use mathlib.Core.Path.{◌≡◌, refl}
use Prim.Native.Nat.{ℕ, ◌+◌, ◌*◌, ◌/◌, ◌≤◌}
use lib.Dec.{lit≤}
use Rattle.tides.specs.Direction.{E}
use Rattle.laws.specs.Formulas.{bound}
use Rattle.laws.specs.RealDistances.{real_bound}

-- a product: e and f are the factors' errors, a and b their sizes (`mul_v`)
abbrev pub product : ℕ → ℕ → ℕ → ℕ → ℕ
product e a f b = e * b + a * f + (e * f / 1000 + 1)

-- a quotient by k, rounded (`near_v`)
abbrev pub rounded : ℕ → ℕ → ℕ
rounded e k = e / k + 501

-- ---- P = near((3 s2 - E)/2), s2 = near(s s/E), from the error of s

unfoldable pub square_off : ℕ → ℕ
square_off s = rounded (product s (E + 182) s (E + 182)) E

unfoldable pub height_off : ℕ → ℕ
height_off s = rounded (3 * square_off s + 0) 2

-- ---- the permanent shift, from the error of u. The sizes: 176,342,701 of e - 176,196,600, 36,963,301 of T, 260,000,000 of A - 2w and
-- 340,000,000 of A + 2T - 2w

-- e
unfoldable pub small_off : ℕ → ℕ
small_off u = rounded (product 0 146100 (height_off u) (E + 548)) E

-- A
unfoldable pub radial_off : ℕ → ℕ
radial_off u = rounded (product (0 + small_off u) 176342701 (height_off u) (E + 548)) E

-- w
unfoldable pub down_off : ℕ → ℕ
down_off u = rounded (product (0 + small_off u) 36963301 (square_off u) (E + 365)) E

-- x and y
unfoldable pub across_off : ℕ → ℕ
across_off u = rounded (product (radial_off u + 2 * down_off u) 260000000 u E) E

-- z
unfoldable pub along_off : ℕ → ℕ
along_off u = rounded (product (radial_off u + 2 * (0 + small_off u) + 2 * down_off u) 340000000 u E) E

-- ---- how a body stands, for the Moon and for the Sun: the sizes are the Moon's, which are the larger

unfoldable pub q2_off : ℕ → ℕ
q2_off q = rounded (product q 1179275307 q 1179275307) E

unfoldable pub q3_off : ℕ → ℕ
q3_off q = rounded (product (q2_off q) 1295181225 q 1179275307) E

-- c
unfoldable pub cosine_off : ℕ → ℕ → ℕ
cosine_off u d = rounded (product u E d E + product u E d E + product u E d E) E

-- near(c u/E)
unfoldable pub part_off : ℕ → ℕ → ℕ
part_off u d = rounded (product (cosine_off u d) (E + 182) u E) E

-- what a displacement comes to, with the errors and sizes of rho and t
abbrev pub displaced_off : ℕ → ℕ → ℕ → ℕ → ℕ → ℕ → ℕ
displaced_off u d rho up t side = rounded (product rho up u E + product t side (d + part_off u d) (2 * E + 183)) E

-- ---- degree two. The sizes: of K0 523,578,453, K 693,629,844, H 422,073,761, S 58,958,538, rho 422,075,000 and t 176,880,000; of h and l, scaled by
-- 10,000 E, 6,085 E and 850 E. K0 is off by a half

-- K
unfoldable pub strength_off : ℕ → ℕ
strength_off q = rounded (product 500 523578453 (q3_off q) 1422479040) E

-- h or l, scaled by 10,000 E: exact but for n ten thousandths of P, whose error is p
abbrev pub by_latitude : ℕ → ℕ → ℕ
by_latitude n p = product 0 n p (E + 548)

-- H
unfoldable pub up_share_off : ℕ → ℕ → ℕ
up_share_off u q = rounded (product (by_latitude 6 (height_off u)) (6085 * E) (strength_off q) 693629844) (10000 * E)

-- S
unfoldable pub side_share_off : ℕ → ℕ → ℕ
side_share_off u q = rounded (product (by_latitude 2 (height_off u)) (850 * E) (strength_off q) 693629844) (10000 * E)

-- rho
unfoldable pub upward_off : ℕ → ℕ → ℕ → ℕ
upward_off u d q = rounded (product (up_share_off u q) 422073761 (height_off (cosine_off u d)) (E + 548)) E

-- a third of t
unfoldable pub sideways_off : ℕ → ℕ → ℕ → ℕ
sideways_off u d q = rounded (product (side_share_off u q) 58958538 (cosine_off u d) (E + 182)) E

unfoldable pub two_off : ℕ → ℕ → ℕ → ℕ
two_off u d q = displaced_off u d (upward_off u d q) 422075000 (3 * sideways_off u d q) 176880000

-- ---- degree three of the Moon. The sizes: of K0₃ 8,687,448, K3 12,640,189, H 3,690,936, S 189,603, rho 14,763,750 and t 1,706,428; of q4
-- 1,562,288,410, c3 E + 548, p 4 E + 1,644 and v 9 E + 2,738. K0₃ is off by a half

unfoldable pub q4_off : ℕ → ℕ
q4_off q = rounded (product (q3_off q) 1422479040 q 1179275307) E

-- K3
unfoldable pub strength_three_off : ℕ → ℕ
strength_three_off q = rounded (product 500 8687448 (q4_off q) 1562288410) E

unfoldable pub c3_off : ℕ → ℕ → ℕ
c3_off u d = rounded (product (square_off (cosine_off u d)) (E + 365) (cosine_off u d) (E + 182)) E

-- p
unfoldable pub height_three_off : ℕ → ℕ → ℕ
height_three_off u d = rounded (5 * c3_off u d + 3 * cosine_off u d) 2

-- v
unfoldable pub slope_three_off : ℕ → ℕ → ℕ
slope_three_off u d = rounded (15 * square_off (cosine_off u d) + 0) 2

-- H
unfoldable pub up_share_three_off : ℕ → ℕ
up_share_three_off q = rounded (product 0 292 (strength_three_off q) 12640189) 1000

-- S
unfoldable pub side_share_three_off : ℕ → ℕ
side_share_three_off q = rounded (product 0 15 (strength_three_off q) 12640189) 1000

-- rho
unfoldable pub upward_three_off : ℕ → ℕ → ℕ → ℕ
upward_three_off u d q = rounded (product (up_share_three_off q) 3690936 (height_three_off u d) (4 * E + 1644)) E

-- t
unfoldable pub sideways_three_off : ℕ → ℕ → ℕ → ℕ
sideways_three_off u d q = rounded (product (side_share_three_off q) 189603 (slope_three_off u d) (9 * E + 2738)) E

unfoldable pub three_off : ℕ → ℕ → ℕ → ℕ
three_off u d q = displaced_off u d (upward_three_off u d q) 14763750 (sideways_three_off u d q) 1706428

-- ---- the whole solid tide: both degrees of the Moon, which is off by d and q, and degree two of the Sun, off by d' and q'

unfoldable pub solid_off : ℕ → ℕ → ℕ → ℕ → ℕ → ℕ
solid_off u d q d' q' = two_off u d q + three_off u d q + two_off u d' q'

-- ---- what the chains come to

-- in thousandths of a grain: x and y, and z of the permanent shift; degree two and degree three of the Moon, degree two of the Sun
pub record Ends (u d q d' q' x z moon third sun : ℕ) : Type 0 where
  pub across : across_off u ≡ x
  pub along : along_off u ≡ z
  pub moon-two : two_off u d q ≡ moon
  pub moon-three : three_off u d q ≡ third
  pub sun-two : two_off u d' q' ≡ sun

-- the starts at the whole distances are each off by a half; at the real ones by what one more metre, or kilometre, adds to that: at least
-- 6,300,000 m to the mark, 350,000,000 m to the Moon, 146,000,000 km to the Sun
pub ends : Ends 500 500 500 500 500 4181 5220 17166 14974 17166 × Ends 170936 3568 3870 7855 8578 153102 166977 991042 37502 1022562
unfolding
    square_off
    height_off
    small_off
    radial_off
    down_off
    across_off
    along_off
    q2_off
    q3_off
    cosine_off
    part_off
    strength_off
    up_share_off
    side_share_off
    upward_off
    sideways_off
    two_off
    q4_off
    strength_three_off
    c3_off
    height_three_off
    slope_three_off
    up_share_three_off
    side_share_three_off
    upward_three_off
    sideways_three_off
    three_off
ends = (
  record { across = refl; along = refl; moon-two = refl; moon-three = refl; sun-two = refl },
  record { across = refl; along = refl; moon-two = refl; moon-three = refl; sun-two = refl },
)

-- from these starts both tides lie within g grains
pub record Suffice (g u d q d' q' : ℕ) : Type 0 where
  pub across : across_off u ≤ 1000 * g
  pub along : along_off u ≤ 1000 * g
  pub solid : solid_off u d q d' q' ≤ 1000 * g

suffices :
    {u d q d' q' x z moon third sun : ℕ} (g : ℕ)
    → Ends u d q d' q' x z moon third sun → x ≤ 1000 * g → z ≤ 1000 * g → moon + third + sun ≤ 1000 * g → Suffice g u d q d' q'
unfolding solid_off
suffices g e hx hz hs =
    record { across = rw e.across hx; along = rw e.along hz; solid = rw (e.moon-two, e.moon-three, e.sun-two) hs }

pub whole-suffices : Suffice bound 500 500 500 500 500
whole-suffices = suffices bound ends.0 (lit≤ tt) (lit≤ tt) (lit≤ tt)

pub real-suffices : Suffice real_bound 170936 3568 3870 7855 8578
real-suffices = suffices real_bound ends.1 (lit≤ tt) (lit≤ tt) (lit≤ tt)

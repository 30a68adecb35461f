-- The solid tide, in grains: the steps of degree two for each body and of degree three for the Moon, one definition each, and the Moon's plus the Sun's.
use Rattle.std.specs.Prelude.{not, cond, ◌&&◌, [], ◌∷◌, ℕ, ◌*◌, eqb, ℤ, pos, ◌+ℤ◌, ◌-ℤ◌, ◌*ℤ◌}
use Rattle.refusal.specs.Refusal.{Table, first}
use Rattle.refusal.specs.Answered.{Answered}
use Rattle.mark.specs.declared.Vec3.{Vec3}
use Rattle.mark.specs.Mark.{vec, nowhere, length_of, marked}
unfoldable pub use Rattle.mark.specs.Mark.{plus}
use Rattle.tides.specs.declared.BodyVector.{BodyVector}
use Rattle.tides.specs.declared.Body.{Body}
use Rattle.tides.specs.declared.solid.Standing.{Standing}
use Rattle.tides.specs.Direction.{E, times, units, legendre}
use Rattle.tides.specs.Permanent.{latitude}
use Rattle.tides.specs.Bodies.{Kind, moon, third_k0, sun, wholes, finite, in_reach, paired, moon_of, sun_of}
use Rattle.numbers.specs.Near.{near}

-- ---- how a body stands to the mark

-- q = near(R0 E/R)
unfoldable pub nearness : ℕ → ℕ → ℤ
nearness r0 r = near (pos r0 *ℤ pos E) r

-- c = near((sum of u d)/E)
unfoldable pub cosine : Vec3 → Vec3 → ℤ
cosine u d = near (u.x *ℤ d.x +ℤ u.y *ℤ d.y +ℤ u.z *ℤ d.z) E

-- q, d and c, from R0, the mark's unit vector u and the body's whole vector at the distance R. d = near(component x E/R)
unfoldable pub standing : ℕ → Vec3 → Vec3 → ℕ → Standing
standing r0 u v r = record { q = nearness r0 r; d = units r v; c = cosine u (units r v) }

-- a body of a kind, at its whole distance
abbrev pub standing_at : Kind → Vec3 → Vec3 → Standing
standing_at k u v = standing k.r0 u v (length_of v)

-- ---- what both degrees share

-- x3 = near(x2 x/E), with x2 = near(x x/E), of q and of c
unfoldable pub cube : ℤ → ℤ
cube x = times (times x x) x

-- near((rho u + t(d - near(c u/E)))/E)
unfoldable pub component : ℤ → ℤ → ℤ → ℤ → ℤ → ℤ
component rho t c u d = near (rho *ℤ u +ℤ t *ℤ (d -ℤ times c u)) E

-- rho upward and t towards the body, each component of it
unfoldable pub displaced : ℤ → ℤ → Vec3 → Standing → Vec3
displaced rho t u b =
    vec (component rho t b.c u.x b.d.x) (component rho t b.c u.y b.d.y) (component rho t b.c u.z b.d.z)

-- ---- degree two

-- K = near(K0 q3/E)
unfoldable pub strength : ℕ → ℤ → ℤ
strength k0 q = times (pos k0) (cube q)

-- p = near((3 c2 - E)/2), with c2 = near(c c/E)
unfoldable pub height : ℤ → ℤ
height c = legendre (times c c)

-- h = 0.6078 - 0.0006 P of the mark's P, scaled by 10,000 E, exactly
unfoldable pub love : ℤ → ℤ
love P = pos 6078 *ℤ pos E -ℤ pos 6 *ℤ P

-- l = 0.0847 + 0.0002 P, scaled alike
unfoldable pub shida : ℤ → ℤ
shida P = pos 847 *ℤ pos E +ℤ pos 2 *ℤ P

-- H = near((6,078 E - 6 P) K/(10,000 E))
unfoldable pub up_share : ℤ → ℤ → ℤ
up_share P k = near (love P *ℤ k) (10000 * E)

-- S = near((847 E + 2 P) K/(10,000 E))
unfoldable pub side_share : ℤ → ℤ → ℤ
side_share P k = near (shida P *ℤ k) (10000 * E)

-- rho = near(H p/E)
unfoldable pub upward : ℤ → ℤ → ℤ → ℤ
upward P k c = times (up_share P k) (height c)

-- t = 3 near(S c/E)
unfoldable pub sideways : ℤ → ℤ → ℤ → ℤ
sideways P k c = pos 3 *ℤ times (side_share P k) c

-- from K0, u and how the body stands
unfoldable pub degree_two : ℕ → Vec3 → Standing → Vec3
degree_two k0 u b =
    let P = latitude u in
    let k = strength k0 b.q in
    displaced (upward P k b.c) (sideways P k b.c) u b

-- ---- degree three, of the Moon alone

-- q4 = near(q3 q/E)
unfoldable pub fourth : ℤ → ℤ
fourth q = times (cube q) q

-- K3 = near(K0₃ q4/E)
unfoldable pub strength_three : ℕ → ℤ → ℤ
strength_three k0 q = times (pos k0) (fourth q)

-- p = near((5 c3 - 3 c)/2), with c3 = near(c2 c/E)
unfoldable pub height_three : ℤ → ℤ
height_three c = near (pos 5 *ℤ cube c -ℤ pos 3 *ℤ c) 2

-- v = near((15 c2 - 3 E)/2)
unfoldable pub slope_three : ℤ → ℤ
slope_three c = near (pos 15 *ℤ times c c -ℤ pos 3 *ℤ pos E) 2

-- H = near(292 K3/1,000)
unfoldable pub up_share_three : ℤ → ℤ
up_share_three k = near (pos 292 *ℤ k) 1000

-- S = near(15 K3/1,000)
unfoldable pub side_share_three : ℤ → ℤ
side_share_three k = near (pos 15 *ℤ k) 1000

-- rho = near(H p/E)
unfoldable pub upward_three : ℤ → ℤ → ℤ
upward_three k c = times (up_share_three k) (height_three c)

-- t = near(S v/E)
unfoldable pub sideways_three : ℤ → ℤ → ℤ
sideways_three k c = times (side_share_three k) (slope_three c)

-- from K0₃, u and how the Moon stands
unfoldable pub degree_three : ℕ → Vec3 → Standing → Vec3
degree_three k0 u b =
    let k = strength_three k0 b.q in
    displaced (upward_three k b.c) (sideways_three k b.c) u b

-- ---- the tide

-- the Moon's part, from its whole vector in metres: degree three is rounded by itself, then added to degree two
unfoldable pub moon_part : Vec3 → Vec3 → Vec3
moon_part u v =
    let b = standing_at moon u v in
    plus (degree_two moon.k0 u b) (degree_three third_k0 u b)

-- the Sun's part, from its whole vector in kilometres
unfoldable pub sun_part : Vec3 → Vec3 → Vec3
sun_part u w = degree_two sun.k0 u (standing_at sun u w)

-- the Moon's plus the Sun's, at the mark's unit vector
unfoldable pub tide_at : Vec3 → BodyVector → BodyVector → Vec3
tide_at u v w = plus (moon_part u (wholes v)) (sun_part u (wholes w))

unfoldable pub tide : Vec3 → BodyVector → BodyVector → Vec3
tide m v w = tide_at (units (length_of m) m) v w

-- refusal 10 of both bodies before 11 of either
abbrev pub body_checks : BodyVector → BodyVector → Table
body_checks v w = (10, not (finite v && finite w)) ∷ (11, not (in_reach moon v && in_reach sun w)) ∷ []

unfoldable pub bodies_number : BodyVector → BodyVector → ℕ
bodies_number v w = first (body_checks v w)

-- 17 not one Moon and one Sun, 10, 11
abbrev pub pair_checks : Body → Body → Table
pair_checks a b = (17, not (paired a b)) ∷ body_checks (moon_of a b) (sun_of a b)

-- 6 mark, then these
unfoldable pub tide_number : Vec3 → Body → Body → ℕ
tide_number m a b = first ((6, not (marked m)) ∷ pair_checks a b)

unfoldable pub tide_answer : Vec3 → Body → Body → Answered Vec3
tide_answer m a b = record { number = tide_number m a b; value = cond (eqb (tide_number m a b) 0) (tide m (moon_of a b) (sun_of a b)) nowhere }

-- K0, the paper's number for each body: near, in grains, of (GM ratio) x Re⁴/R0³, all in metres, with Re = 6,378,136.6 m; and the Moon's K0₃.
--
-- Each fraction is written as its whole parts, so that it can be held against the paper:
-- Re⁴ is 63781366⁴ over 10⁴, and Re⁵ 63781366⁵ over 10⁵.
use mathlib.Core.Path.{◌≡◌, refl}
use Prim.Native.Nat.{◌*◌, ◌^◌}
use lib.IntN.{pos}
use Rattle.mark.specs.Mark.{metre}
use Rattle.tides.specs.Bodies.{moon, third_k0, sun}
use Rattle.numbers.specs.Near.{nearest, near}

-- ratio 0.0123000371, R0 = 384,400,000 m
pub moon-k0 : near (pos (123000371 * 63781366 ^ 4 * metre)) (10 ^ 10 * 10 ^ 4 * 384400000 ^ 3) ≡ pos moon.k0
unfolding near nearest
moon-k0 = refl

-- ratio 132,712,442,099 x 10⁹ over 398,600,441,800,000, R0 = 149,597,870 km
pub sun-k0 : near (pos (132712442099 * 10 ^ 9 * 63781366 ^ 4 * metre)) (398600441800000 * 10 ^ 4 * (149597870 * 1000) ^ 3) ≡ pos sun.k0
unfolding near nearest
sun-k0 = refl

-- K0₃, of the Moon's degree three: (GM ratio) x Re⁵/R0⁴
pub third-k0 : near (pos (123000371 * 63781366 ^ 5 * metre)) (10 ^ 10 * 10 ^ 5 * 384400000 ^ 4) ≡ pos third_k0
unfolding near nearest
third-k0 = refl

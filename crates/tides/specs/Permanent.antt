-- The permanent shift, tide-free to mean-tide, in grains: the paper's steps, one definition each.
--
-- Radial (-0.1206 + 0.0001 P) P and north (-0.0252 - 0.0001 P) sin 2φ, metres, with P = (3 sin²φ - 1)/2. In grains 0.0001 m is
-- 146,100, 0.1206 m is 176,196,600 and 0.0252 m is 36,817,200.
use Rattle.std.specs.Prelude.{cond, ℤ, pos, neg_ℤ, ◌+ℤ◌, ◌-ℤ◌, ◌*ℤ◌}
use Rattle.mark.specs.declared.Vec3.{Vec3}
use Rattle.mark.specs.Mark.{vec, nowhere, length_of, marked, mark_number}
use Rattle.refusal.specs.Answered.{Answered}
use Rattle.tides.specs.Direction.{times, units, legendre}

-- s2 = near(uz uz/E)
unfoldable pub s2 : ℤ → ℤ
s2 uz = times uz uz

-- P = near((3 s2 - E)/2), at the unit vector u. The solid tide takes it too
unfoldable pub latitude : Vec3 → ℤ
latitude u = legendre (s2 u.z)

-- e = near(146,100 P/E)
unfoldable pub small : ℤ → ℤ
small p = times (pos 146100) p

-- A = near((e - 176,196,600) P/E)
unfoldable pub radial : ℤ → ℤ → ℤ
radial e p = times (e -ℤ pos 176196600) p

-- T = -36,817,200 - e
unfoldable pub north : ℤ → ℤ
north e = neg_ℤ (pos 36817200) -ℤ e

-- w = near(T s2/E)
unfoldable pub down : ℤ → ℤ → ℤ
down t s = times t s

-- x and y: near((A - 2w) u/E)
unfoldable pub across : ℤ → ℤ → ℤ → ℤ
across a w u = times (a -ℤ pos 2 *ℤ w) u

-- z: near((A + 2T - 2w) uz/E)
unfoldable pub along : ℤ → ℤ → ℤ → ℤ → ℤ
along a t w uz = times (a +ℤ pos 2 *ℤ t -ℤ pos 2 *ℤ w) uz

-- from the unit vector u, by way of s2, P, e, A, T, w
unfoldable pub permanent_of : Vec3 → Vec3
permanent_of u =
    let s = s2 u.z in
    let p = latitude u in
    let e = small p in
    let a = radial e p in
    let t = north e in
    let w = down t s in
    vec (across a w u.x) (across a w u.y) (along a t w u.z)

unfoldable pub permanent : Vec3 → Vec3
permanent m = permanent_of (units (length_of m) m)

-- the answer for any mark: refusal 6 comes with no shift
unfoldable pub permanent_answer : Vec3 → Answered Vec3
permanent_answer m = record { number = mark_number m; value = cond (marked m) (permanent m) nowhere }

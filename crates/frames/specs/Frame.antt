-- The frames: rows of Table 4.1 from ITRF2008 at 2000.0, and the shift A + B x epoch of a mark, in grains.
--
-- T is in 0.1 mm, D in 0.01 ppb, R in 0.01 mas, the rates are the same a year. 0.1 mm is 146,100 grains, and one micrometre 1,461. A year is 1,461
-- quarter-days, so a micrometre a year is a grain a quarter-day, and 0.1 mm a year is 100 of them.
use Rattle.std.specs.Prelude.{Bool, not, cond, ◌&&◌, List, [], ◌∷◌, ℕ, ltb, length, get_or, ℤ, pos, neg_ℤ, ◌+ℤ◌, ◌-ℤ◌, ◌*ℤ◌}
use Rattle.refusal.specs.Refusal.{first}
use Rattle.refusal.specs.Answered.{Answered}
use Rattle.numbers.specs.Near.{near}
use Rattle.mark.specs.declared.Vec3.{Vec3}
use Rattle.mark.specs.Mark.{vec, nowhere, marked, plus, minus, scaled}
use Rattle.frames.specs.declared.rows.Line.{Line}
use Rattle.frames.specs.declared.rows.Row.{Row}
use Rattle.frames.specs.declared.Terms.{Terms}

-- ---- the table: two lines to a frame, seven numbers to a line, T1 T2 T3 D R1 R2 R3 as they are printed

abbrev pub line : ℤ → ℤ → ℤ → ℤ → ℤ → ℤ → ℤ → Line
line t1 t2 t3 d r1 r2 r3 = record { t = vec t1 t2 t3; d = d; r = vec r1 r2 r3 }

abbrev pub row : Line → Line → Row
row at rates = record { at = at; rates = rates }

abbrev neg : ℕ → ℤ
neg n = neg_ℤ (pos n)

abbrev none : Line
none = line (pos 0) (pos 0) (pos 0) (pos 0) (pos 0) (pos 0) (pos 0)

abbrev pub itrf2008 : Row
itrf2008 = row none none

abbrev pub itrf2005 : Row
itrf2005 =
    row
    (line (neg 20) (neg 9) (neg 47) (pos 94) (pos 0) (pos 0) (pos 0))
    (line (pos 3) (pos 0) (pos 0) (pos 0) (pos 0) (pos 0) (pos 0))

abbrev pub itrf2000 : Row
itrf2000 =
    row
    (line (neg 19) (neg 17) (neg 105) (pos 134) (pos 0) (pos 0) (pos 0))
    (line (pos 1) (pos 1) (neg 18) (pos 8) (pos 0) (pos 0) (pos 0))

abbrev pub itrf97 : Row
itrf97 =
    row
    (line (pos 48) (pos 26) (neg 332) (pos 292) (pos 0) (pos 0) (pos 6))
    (line (pos 1) (neg 5) (neg 32) (pos 9) (pos 0) (pos 0) (pos 2))

abbrev pub itrf96 : Row
itrf96 =
    row
    (line (pos 48) (pos 26) (neg 332) (pos 292) (pos 0) (pos 0) (pos 6))
    (line (pos 1) (neg 5) (neg 32) (pos 9) (pos 0) (pos 0) (pos 2))

abbrev pub itrf94 : Row
itrf94 =
    row
    (line (pos 48) (pos 26) (neg 332) (pos 292) (pos 0) (pos 0) (pos 6))
    (line (pos 1) (neg 5) (neg 32) (pos 9) (pos 0) (pos 0) (pos 2))

abbrev pub itrf93 : Row
itrf93 =
    row
    (line (neg 240) (pos 24) (neg 386) (pos 341) (neg 171) (neg 148) (neg 30))
    (line (neg 28) (neg 1) (neg 24) (pos 9) (neg 11) (neg 19) (pos 7))

abbrev pub itrf92 : Row
itrf92 =
    row
    (line (pos 128) (pos 46) (neg 412) (pos 221) (pos 0) (pos 0) (pos 6))
    (line (pos 1) (neg 5) (neg 32) (pos 9) (pos 0) (pos 0) (pos 2))

abbrev pub itrf91 : Row
itrf91 =
    row
    (line (pos 248) (pos 186) (neg 472) (pos 361) (pos 0) (pos 0) (pos 6))
    (line (pos 1) (neg 5) (neg 32) (pos 9) (pos 0) (pos 0) (pos 2))

abbrev pub itrf90 : Row
itrf90 =
    row
    (line (pos 228) (pos 146) (neg 632) (pos 391) (pos 0) (pos 0) (pos 6))
    (line (pos 1) (neg 5) (neg 32) (pos 9) (pos 0) (pos 0) (pos 2))

abbrev pub itrf89 : Row
itrf89 =
    row
    (line (pos 278) (pos 386) (neg 1012) (pos 731) (pos 0) (pos 0) (pos 6))
    (line (pos 1) (neg 5) (neg 32) (pos 9) (pos 0) (pos 0) (pos 2))

abbrev pub itrf88 : Row
itrf88 =
    row
    (line (pos 228) (pos 26) (neg 1252) (pos 1041) (pos 10) (pos 0) (pos 6))
    (line (pos 1) (neg 5) (neg 32) (pos 9) (pos 0) (pos 0) (pos 2))

-- by frame code, from 0
abbrev pub rows : List Row
rows = itrf2008 ∷ itrf2005 ∷ itrf2000 ∷ itrf97 ∷ itrf96 ∷ itrf94 ∷ itrf93 ∷ itrf92 ∷ itrf91 ∷ itrf90 ∷ itrf89 ∷ itrf88 ∷ []

unfoldable pub known_frame : ℕ → Bool
known_frame code = ltb code (length rows)

unfoldable pub row_of : ℕ → Row
row_of code = get_or rows code itrf2008

-- ---- A and B of one line

-- what the rotations give a mark, before they are put into radians: (R2 z - R3 y, R3 x - R1 z, R1 y - R2 x)
unfoldable pub turned : Vec3 → Vec3 → Vec3
turned r m = vec (r.y *ℤ m.z -ℤ r.z *ℤ m.y) (r.z *ℤ m.x -ℤ r.x *ℤ m.z) (r.x *ℤ m.y -ℤ r.y *ℤ m.x)

-- units of n in a micrometre
abbrev pub micro : ℕ
micro = 100000000000000

-- n: what scale and rotation give one component m, in 10⁻²⁰ m; s is that component of `turned`. One unit of D is 10⁻¹¹, and one of R is taken as
-- 4,848,136,811/10²⁰ radian.
unfoldable pub linear : ℤ → ℤ → ℤ → ℤ
linear d m s = pos 1000000000 *ℤ d *ℤ m +ℤ pos 4848136811 *ℤ s

-- A = 146,100 T + near(1,461 n/10¹⁴), grains
unfoldable pub offset : ℤ → ℤ → ℤ → ℤ → ℤ
offset t d m s = pos 146100 *ℤ t +ℤ near (pos 1461 *ℤ linear d m s) micro

-- B = 100 T + near(n/10¹⁴) with the rates, grains a quarter-day
unfoldable pub drift : ℤ → ℤ → ℤ → ℤ → ℤ
drift t d m s = pos 100 *ℤ t +ℤ near (linear d m s) micro

-- a rule for one component, of T, D, the mark and `turned`, for three
abbrev pub componentwise : (ℤ → ℤ → ℤ → ℤ → ℤ) → Line → Vec3 → Vec3
componentwise f p m =
    let s = turned p.r m in
    vec (f p.t.x p.d m.x s.x) (f p.t.y p.d m.y s.y) (f p.t.z p.d m.z s.z)

unfoldable pub frame_a : ℕ → Vec3 → Vec3
frame_a code m = componentwise offset (row_of code).at m

unfoldable pub frame_b : ℕ → Vec3 → Vec3
frame_b code m = componentwise drift (row_of code).rates m

-- ---- a frame at an epoch, and from one frame to another

-- A + B x epoch, grains
unfoldable pub frame_at : ℕ → Vec3 → ℤ → Vec3
frame_at g m epoch = plus (frame_a g m) (scaled epoch (frame_b g m))

-- what a position gains from frame f to g: (A_g + B_g x epoch) - (A_f + B_f x epoch)
unfoldable pub frame_shift : ℕ → ℕ → ℤ → Vec3 → Vec3
frame_shift f g epoch m = minus (frame_at g m epoch) (frame_at f m epoch)

-- what a velocity gains from frame f to g: B_g - B_f
unfoldable pub frame_gain : ℕ → ℕ → Vec3 → Vec3
frame_gain f g m = minus (frame_b g m) (frame_b f m)

-- refusal 3 unknown frame, then 6 mark
unfoldable pub frame_number : ℕ → Vec3 → ℕ
frame_number code m = first ((3, not (known_frame code)) ∷ (6, not (marked m)) ∷ [])

-- the terms that come with a refusal
abbrev pub no_terms : Terms
no_terms = record { a = nowhere; b = nowhere }

unfoldable pub terms_answer : ℕ → Vec3 → Answered Terms
terms_answer code m =
    let ok = known_frame code && marked m in
    record { number = frame_number code m; value = record { a = cond ok (frame_a code m) nowhere; b = cond ok (frame_b code m) nowhere } }

-- The tide series: a mark, a run of doubles, six to a row (Moon, then Sun), and a run of numbers, three to a row, that take the tide.
use Rattle.std.specs.Prelude.{Bool, cond, ◌&&◌, List, [], ◌∷◌, ◌++◌, ℕ, zero, suc, ◌+◌, ◌*◌, ◌/◌, eqb, length, get_or, ℤ, Float}
use Rattle.std.specs.Float.{nan}
use Rattle.refusal.specs.Outputs.{kept}
use Rattle.refusal.specs.FirstBad.{first_bad}
use Rattle.mark.specs.declared.Vec3.{Vec3}
use Rattle.mark.specs.Mark.{marked}
use Rattle.tides.specs.declared.BodyVector.{BodyVector}
use Rattle.tides.specs.Tide.{bodies_number, tide}

-- three doubles from place `at`
unfoldable pub body_at : List Float → ℕ → BodyVector
body_at bodies at = record { x = get_or bodies at nan; y = get_or bodies (at + 1) nan; z = get_or bodies (at + 2) nan }

-- the Moon and the Sun of row i
abbrev pub moon_at : List Float → ℕ → BodyVector
moon_at bodies i = body_at bodies (6 * i)

abbrev pub sun_at : List Float → ℕ → BodyVector
sun_at bodies i = body_at bodies (6 * i + 3)

-- six doubles and three numbers to each of one count of rows
unfoldable pub rows_fit : ℕ → ℕ → Bool
rows_fit doubles numbers = eqb doubles (6 * (numbers / 3)) && eqb numbers (3 * (numbers / 3))

-- 10 or 11 of a row, 0 when both bodies are accepted
unfoldable pub row_number : List Float → ℕ → ℕ
row_number bodies i = bodies_number (moon_at bodies i) (sun_at bodies i)

-- the first bad row of the k rows from row i on, with its number; else 0 and the number of rows
unfoldable pub scan : List Float → ℕ → ℕ → ℕ × ℕ
scan bodies i k = first_bad (row_number bodies) i k

-- a number and a row: 6 and 16 come with 0
unfoldable pub series_answer : Vec3 → List Float → ℕ → ℕ × ℕ
series_answer m bodies numbers =
    cond (marked m) (cond (rows_fit (length bodies) numbers) (scan bodies 0 (numbers / 3)) (16, 0)) (6, 0)

abbrev pub three : Vec3 → List ℤ
three v = v.x ∷ v.y ∷ v.z ∷ []

-- the tides of the k rows from row i on
unfoldable pub tides_from : Vec3 → List Float → ℕ → ℕ → List ℤ
tides_from m bodies i zero = []
tides_from m bodies i (suc k) = three (tide m (moon_at bodies i) (sun_at bodies i)) ++ tides_from m bodies (i + 1) k

-- what the lent numbers hold after the call: the tides, or what they held before
unfoldable pub series_numbers : Vec3 → List Float → List ℤ → List ℤ
series_numbers m bodies out = kept (series_answer m bodies (length out)).0 (tides_from m bodies 0 (length out / 3)) out

-- What the private steps answer of rows of six doubles each, in the words of the paper's definitions. No promise to the outside cites these.
use Rattle.std.specs.Prelude.{List, [], ℕ, length, get_or, flat_map, ℤ, Float}
use Rattle.refusal.specs.FirstBad.{first_bad}
use Rattle.mark.specs.declared.Vec3.{Vec3}
use Rattle.tides.specs.Aim.{pair_at}
use Rattle.tides.specs.Tide.{bodies_number}
use Rattle.series.specs.Series.{body_at, three}

-- 10 or 11 of a row, 0 when both bodies are accepted
unfoldable pub number_at : List (List Float) → ℕ → ℕ
number_at rows i = bodies_number (body_at (get_or rows i []) 0) (body_at (get_or rows i []) 3)

-- the first bad row, with its number; else 0 and the number of rows
abbrev pub scan_of : List (List Float) → ℕ × ℕ
scan_of rows = first_bad (number_at rows) 0 (length rows)

-- the answers' shifts of the rows, at the direction u: zeros at a refused row
unfoldable pub shift_of : Vec3 → List Float → List ℤ
shift_of u row = three (pair_at u (body_at row 0) (body_at row 3)).value

abbrev pub shifts_of : Vec3 → List (List Float) → List ℤ
shifts_of u rows = flat_map (shift_of u) rows

-- Refusal numbers: a table of numbers and conditions in the paper's order. The first condition that is met gives the number; 0 is accepted.
use Rattle.std.specs.Prelude.{Bool, true, false, List, [], ◌∷◌, ℕ}

abbrev pub Table : Type 0
Table = List (ℕ × Bool)

-- n where the condition is met, else what comes after
abbrev pub choose : Bool → ℕ → ℕ → ℕ
choose true n rest = n
choose false n rest = rest

unfoldable pub first : Table → ℕ
first [] = 0
first (entry ∷ table) = choose entry.1 entry.0 (first table)

-- The listing as a whole: the lines of the parts of an input, one after another.
use Rattle.std.specs.Prelude.{◌≡◌, List, [], ◌∷◌, ◌++◌, ℕ, ◌%◌, length}
use Rattle.codec.specs.Codec.{card_length}
use Rattle.codec.specs.Parts.{parts}
use Rattle.listing.specs.Line.{line_of}

unfoldable pub lines_of : List (List ℕ) → List ℕ
lines_of [] = []
lines_of (part ∷ rest) = line_of part ++ lines_of rest

-- the last part may be short, which its line says
unfoldable pub listing : List ℕ → List ℕ
listing s = lines_of (parts s)

-- what is read in turns: each turn's bytes, one after another
unfoldable pub joined : List (List ℕ) → List ℕ
joined [] = []
joined (turn ∷ turns) = turn ++ joined turns

-- every turn but the last is of whole parts
unfoldable pub Whole : List (List ℕ) → Type 0
Whole [] = Unit {0}
Whole (turn ∷ []) = Unit {0}
Whole (turn ∷ next ∷ turns) = (length turn % card_length ≡ 0) × Whole (next ∷ turns)

-- what is written in turns: the listing of each
unfoldable pub listings : List (List ℕ) → List ℕ
listings [] = []
listings (turn ∷ turns) = listing turn ++ listings turns

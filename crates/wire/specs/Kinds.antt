-- The kinds by their numbers.
use Rattle.std.specs.Prelude.{ℕ, List, [], ◌∷◌, get_or}
use Rattle.wire.specs.declared.Kind.{Kind}
use Rattle.wire.specs.declared.Kind.TheVariants.{Near, Root, Whole, Permanent, Rows, Pair, Series, Read, Write, Export, Expand, Metres, Calls, Lookup, Reader, Line, Check, Other}

-- the kinds in the order of their numbers, from 1
abbrev pub kinds : List Kind
kinds =
    Near ∷ Root ∷ Whole ∷ Permanent ∷ Rows ∷ Pair ∷ Series ∷ Read ∷ Write ∷ Export ∷ Expand ∷ Metres ∷ Calls ∷ Lookup ∷ Reader ∷ Line ∷ Check ∷ []

-- the kind of a number, `Other` where no kind has it
abbrev pub kind_of : ℕ → Kind
kind_of n = get_or (Other ∷ kinds) n Other

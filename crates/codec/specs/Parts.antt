-- Bytes as parts of a card's length, one after another; the last may be short. What the catalogue's reader reads, and what the listing lists.
use Rattle.std.specs.Prelude.{List, [], ◌∷◌, ℕ, zero, suc, ◌+◌, ◌-◌, ◌/◌, length, take, drop}
use Rattle.codec.specs.Codec.{card_length}

-- n parts in a row from place `at` on, a record each; the last may be short
unfoldable pub parts_from : List ℕ → ℕ → ℕ → List (List ℕ)
parts_from s at zero = []
parts_from s at (suc n) = take card_length (drop at s) ∷ parts_from s (at + card_length) n

-- how many parts there are, a short last one counted
unfoldable pub part_count : List ℕ → ℕ
part_count s = (length s + (card_length - 1)) / card_length

unfoldable pub parts : List ℕ → List (List ℕ)
parts s = parts_from s 0 (part_count s)

-- Lookup: the first record of a catalogue whose first nine bytes are the key's. Records of a card's length, no header.
use Rattle.std.specs.Prelude.{Bool, true, not, cond, ◌&&◌, List, [], ◌∷◌, ℕ, zero, suc, ◌+◌, ◌/◌, ◌%◌, eqb, ltb, length, get_or, take, drop}
use Rattle.refusal.specs.Refusal.{first}
use Rattle.refusal.specs.Answered.{Answered}
use Rattle.head.specs.Head.{site_shape}
use Rattle.codec.specs.Codec.{card_length}

-- the k bytes from byte i on of the record at `at` are the key's
unfoldable pub same_from : List ℕ → List ℕ → ℕ → ℕ → ℕ → Bool
same_from s key at i zero = true
same_from s key at i (suc k) = eqb (get_or s (at + i) 0) (get_or key i 0) && same_from s key at (i + 1) k

unfoldable pub has_site : List ℕ → List ℕ → ℕ → Bool
has_site s key at = same_from s key at 0 9

-- the place of the first of the n records from place `at` on that has the key's site, and the end of them where none has
unfoldable pub first_from : List ℕ → List ℕ → ℕ → ℕ → ℕ
first_from s key at zero = at
first_from s key at (suc n) = cond (has_site s key at) at (first_from s key (at + card_length) n)

unfoldable pub first_place : List ℕ → List ℕ → ℕ
first_place s key = first_from s key 0 (length s / card_length)

-- 2 first, then 14, then 15
unfoldable pub find_number : List ℕ → List ℕ → ℕ
find_number s key =
    first
    ((2, not (site_shape key)) ∷ (14, not (eqb (length s % card_length) 0)) ∷ (15, not (ltb (first_place s key) (length s))) ∷ [])

-- the record's first byte, and the catalogue's length where the lookup is refused
unfoldable pub find_place : List ℕ → List ℕ → ℕ
find_place s key = cond (eqb (find_number s key) 0) (first_place s key) (length s)

-- the record, and no bytes where the lookup is refused
unfoldable pub find_part : List ℕ → List ℕ → List ℕ
find_part s key = cond (eqb (find_number s key) 0) (take card_length (drop (first_place s key) s)) []

-- where the part lies: a block of memory and a byte of it
abbrev pub place_of : ℕ × ℕ → ℕ → ℕ × ℕ
place_of p at = (p.0, at + p.1)

-- both, as a lookup answers them
unfoldable pub found : List ℕ → List ℕ → Answered ℕ
found s key = record { number = find_number s key; value = find_place s key }

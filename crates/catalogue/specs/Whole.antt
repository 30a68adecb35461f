-- A whole catalogue's check: 14, else the first bad card's own number and its place, else 0 and the number of cards.
use Rattle.std.specs.Prelude.{cond, List, ℕ, ◌*◌, ◌/◌, ◌%◌, eqb, length, take, drop}
use Rattle.refusal.specs.FirstBad.{first_bad}
use Rattle.codec.specs.Codec.{card_length, read_number}

-- the number of card k, counted from 0
unfoldable pub number_at : List ℕ → ℕ → ℕ
number_at s k = read_number (take card_length (drop (card_length * k) s))

unfoldable pub check_answer : List ℕ → ℕ × ℕ
check_answer s = cond (eqb (length s % card_length) 0) (first_bad (number_at s) 0 (length s / card_length)) (14, 0)

-- The parts of an answering line, as text.
use Rattle.std.specs.Prelude.{cond, List, [], ◌∷◌, ◌++◌, ℕ, eqb, length, ℤ, pos, Option, None, Some, Result, Ok, Err}
use Rattle.card.specs.declared.Card.{Card}
use Rattle.card.specs.Zero.{zero_card, answer_of}
use Rattle.mark.specs.declared.Vec3.{Vec3}
use Rattle.refusal.specs.Answered.{counted}
use Rattle.refusal.specs.declared.Refusal.{Refusal}
use Rattle.refusal.specs.declared.Refused.{Refused}
use Rattle.text.specs.Text.{natural, spaced, hex_of}

-- an answer's number, and a space
unfoldable pub number_part : ℕ → List ℕ
number_part n = natural n ++ (32 ∷ [])

-- three numbers, with a space before each
unfoldable pub vector_part : Vec3 → List ℕ
vector_part v = (spaced v.x ++ spaced v.y) ++ spaced v.z

-- a card's frame, byte 10 and epoch
unfoldable pub first_part : ℕ → ℕ → ℤ → List ℕ
first_part frame tide epoch = (spaced (pos frame) ++ spaced (pos tide)) ++ spaced epoch

-- bytes as hex, and `-` where there are none
unfoldable pub run_part : List ℕ → List ℕ
run_part s = cond (eqb (length s) 0) (45 ∷ []) (hex_of s)

-- a card: the site as hex, then its numbers
unfoldable pub card_part : Card → List ℕ
card_part c =
    ((((run_part c.site ++ first_part c.frame c.tide c.epoch) ++ vector_part c.mark) ++ vector_part c.velocity)
    ++ vector_part c.position) ++ vector_part c.solid

-- what a read says: its number, and the card
unfoldable pub read_part : Result Card Refusal → List ℕ
read_part read = number_part (answer_of read).number ++ card_part (answer_of read).card

-- `done` and a space, and the card of all zeros
unfoldable pub done_part : List ℕ
done_part = (100 ∷ 111 ∷ 110 ∷ 101 ∷ 32 ∷ []) ++ card_part zero_card

-- what a step of a catalogue's reader found: what a read says, or what is put where nothing was left
unfoldable pub step_part : Result (Option Card) Refusal → List ℕ
step_part (Ok (Some card)) = read_part (Ok card)
step_part (Ok None) = done_part
step_part (Err refusal) = read_part (Err refusal)

-- a count after 0 and a space, or a refusal's number, a space and its place
unfoldable pub count_part : Result ℕ Refused → List ℕ
count_part answer = number_part (counted answer).0 ++ natural (counted answer).1

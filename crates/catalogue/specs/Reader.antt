-- The catalogue reader: one step from a place in the lent bytes, and what all the steps give.
use Rattle.std.specs.Prelude.{◌≡◌, Bool, true, false, cond, List, [], ◌∷◌, ℕ, zero, suc, ◌+◌, ◌-◌, leb, ltb, length, take, drop, Result, Ok, Err, Option, Some, None}
use Rattle.refusal.specs.declared.Refusal.{Refusal}
use Rattle.refusal.specs.Answered.{number_of}
use Rattle.card.specs.declared.Card.{Card}
use Rattle.card.specs.declared.Answer.{Answer}
use Rattle.card.specs.Zero.{zero_card, refused_with}
use Rattle.codec.specs.Codec.{card_length, read_card}
use Rattle.catalogue.specs.declared.Taken as declared
use Rattle.catalogue.specs.declared.Reader.{Reader}

-- one step, as the paper tells it: a number, whether nothing was left, the card, and the place of the next step in bytes
pub record Taken : Type 0 where
  pub number : ℕ
  pub done : Bool
  pub card : Card
  pub next : ℕ

-- what was read, whether nothing was left, and the place after it
abbrev pub taken_with : Answer → Bool → ℕ → Taken
taken_with a done next = record { number = a.number; done = done; card = a.card; next = next }

-- nothing is left at place `at`
unfoldable pub ended : ℕ → Taken
ended at = taken_with (refused_with 0) true at

-- what was read, and the place after it
unfoldable pub stepped : Answer → ℕ → Taken
stepped a next = taken_with a false next

-- the step at place `at`: the next record, a short last part, or done
unfoldable pub taken_at : List ℕ → ℕ → Taken
taken_at s at =
    cond (leb (length s) at) (ended at)
    (cond (ltb (length s - at) card_length) (stepped (refused_with 1) (length s))
    (stepped (read_card (take card_length (drop at s))) (at + card_length)))

-- what an answered step says: refused or done, the card is all zeros
abbrev pub shown_at : Result (Option Card) Refusal → ℕ → Taken
shown_at (Ok (Some c)) next = stepped (record { number = 0; card = c }) next
shown_at (Ok None) next = ended next
shown_at (Err e) next = stepped (refused_with (number_of e)) next

abbrev pub shown : declared.Taken → Taken
shown t = shown_at t.found t.next

-- ---- what all the steps give

-- what a caller sees of a step but the place: whether it is done, the number and the card
abbrev pub Seen : Type 0
Seen = Bool × Answer

unfoldable pub seen : Taken → Seen
seen t = (t.done, record { number = t.number; card = t.card })

-- what n steps in a row give, from place `at` on: what n calls of `next` answer, each of which leaves the reader at the place handed on
unfoldable pub answers : List ℕ → ℕ → ℕ → List Seen
answers s at zero = []
answers s at (suc n) = seen (taken_at s at) ∷ answers s (taken_at s at).next n

-- a part that was read; a short one reads as 1
unfoldable pub read_seen : List ℕ → Seen
read_seen part = (false, read_card part)

unfoldable pub done_seen : Seen
done_seen = (true, record { number = 0; card = zero_card })

-- ---- a reader

-- a run of calls of `next` on reader r: what each answered and the reader that it left. Each link is the promise of one call.
unfoldable pub Reads : Reader → List (declared.Taken × Reader) → Type 0
Reads r [] = Unit {0}
Reads r (call ∷ calls) =
    (shown call.0 ≡ taken_at r.src.now r.at)
    × ((call.1.src ≡ r.src) × ((call.1.at ≡ (taken_at r.src.now r.at).next) × Reads call.1 calls))

-- what the calls answered
unfoldable pub told : List (declared.Taken × Reader) → List Seen
told [] = []
told (call ∷ calls) = seen (shown call.0) ∷ told calls

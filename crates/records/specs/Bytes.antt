-- A call from a card's bytes to a lent buffer: the buffer's length first (1), then the record's own checks, then the call's. A refused call
-- leaves the buffer as it was.
use Rattle.std.specs.Prelude.{◌≡◌, List, ℕ, length}
use Rattle.refusal.specs.Outputs.{before, roomy, kept}
use Rattle.card.specs.declared.Card.{Card}
use Rattle.card.specs.declared.Answer.{Answer}
use Rattle.card.specs.Calls.{Call, next, call_number, step}
use Rattle.codec.specs.Codec.{card_length, encode, decode, read_number}

unfoldable pub bytes_number : ℕ → List ℕ → Call → ℕ
bytes_number room s k = roomy card_length room (before (read_number s) (call_number (decode s) k))

unfoldable pub bytes_out : List ℕ → List ℕ → Call → List ℕ
bytes_out out s k = kept (bytes_number (length out) s k) (encode (next (decode s) k)) out

-- what a call on a record answers and leaves in the buffer, whichever call the card's own answers are those of
abbrev pub Called : (Card → Answer → Type 0) → List ℕ → List ℕ → ℕ → List ℕ → Type 0
Called answers s old n new =
    (k : Call) → ((c : Card) (a : Answer) → answers c a → a ≡ step c k) → (n ≡ bytes_number (length old) s k) × (new ≡ bytes_out old s k)

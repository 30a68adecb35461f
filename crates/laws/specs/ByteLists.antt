-- Lists of calls on a card's bytes: each call is lent a buffer, and what it wrote there is the next record. This is what a caller of C does.
use Rattle.std.specs.Prelude.{◌≡◌, cond, List, [], ◌∷◌, ℕ, eqb, length}
use Rattle.card.specs.Calls.{Call}
use Rattle.codec.specs.Codec.{card_length}
use Rattle.records.specs.Bytes.{bytes_number, bytes_out}

-- a call, and what the buffer that it is lent holds before it
pub record Lent : Type 0 where
  pub call : Call
  pub out : List ℕ

-- every buffer has a card's length
unfoldable pub Roomy : List Lent → Type 0
Roomy [] = Unit {0}
Roomy (l ∷ ls) = (length l.out ≡ card_length) × Roomy ls

unfoldable pub calls_of : List Lent → List Call
calls_of [] = []
calls_of (l ∷ ls) = l.call ∷ calls_of ls

-- the number of a call on the record s
unfoldable pub lent_number : List ℕ → Lent → ℕ
lent_number s l = bytes_number (length l.out) s l.call

-- the record to go on with: what the call wrote, or, where it was refused, the record that it had
unfoldable pub record_after : List ℕ → Lent → List ℕ
record_after s l = cond (eqb (lent_number s l) 0) (bytes_out l.out s l.call) s

unfoldable pub run_bytes : List ℕ → List Lent → List ℕ
run_bytes s [] = s
run_bytes s (l ∷ ls) = run_bytes (record_after s l) ls

unfoldable pub numbers_bytes : List ℕ → List Lent → List ℕ
numbers_bytes s [] = []
numbers_bytes s (l ∷ ls) = lent_number s l ∷ numbers_bytes (record_after s l) ls

-- what the lent buffers hold afterwards
unfoldable pub buffers_after : List ℕ → List Lent → List (List ℕ)
buffers_after s [] = []
buffers_after s (l ∷ ls) = bytes_out l.out s l.call ∷ buffers_after (record_after s l) ls

-- what they held before
unfoldable pub buffers_of : List Lent → List (List ℕ)
buffers_of [] = []
buffers_of (l ∷ ls) = l.out ∷ buffers_of ls

-- the same number for each call
unfoldable pub each : ℕ → List Lent → List ℕ
each n [] = []
each n (l ∷ ls) = n ∷ each n ls

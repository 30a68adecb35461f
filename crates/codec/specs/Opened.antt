-- What a call on bytes starts from, and what it ends with.
use Rattle.std.specs.Prelude.{cond, ◌&&◌, List, ℕ, eqb, length, get_or}
use Rattle.refusal.specs.Outputs.{roomy, kept}
use Rattle.card.specs.declared.Answer.{Answer}
use Rattle.card.specs.Zero.{zero_card}
use Rattle.codec.specs.Codec.{card_length, encode, decode, read_number}

-- the buffer's length first; then a record of another length, or with a zero byte that is not 0, has its own number, which is not 0
unfoldable pub opened_number : ℕ → List ℕ → ℕ
opened_number room s = roomy card_length room (cond (eqb (length s) card_length && eqb (get_or s 11 0) 0) 0 (read_number s))

unfoldable pub opened_for : ℕ → List ℕ → Answer
opened_for room s = record { number = opened_number room s; card = cond (eqb (opened_number room s) 0) (decode s) zero_card }

-- the buffer's length first, then the answer's number
unfoldable pub put_number : Answer → ℕ → ℕ
put_number a room = roomy card_length room a.number

-- an accepted answer's bytes, or what the buffer held
unfoldable pub put_out : Answer → List ℕ → List ℕ
put_out a out = kept (put_number a (length out)) (encode a.card) out

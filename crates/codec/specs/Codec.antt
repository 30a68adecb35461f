-- The card's 88 bytes: what is written of a card, what is read of bytes, and the answers with their refusals.
use Rattle.std.specs.Prelude.{true, not, cond, List, [], ◌∷◌, ◌++◌, ℕ, eqb, length, get_or, take}
use Rattle.refusal.specs.Refusal.{first}
use Rattle.refusal.specs.Outputs.{kept}
use Rattle.octets.specs.Octets.{signed_at}
use Rattle.layout.specs.Layout.{Fields, run, three, vector_at, first_twelve}
use Rattle.card.specs.declared.Card.{Card}
use Rattle.card.specs.declared.Answer.{Answer}
use Rattle.card.specs.Checks.{checks}
use Rattle.card.specs.Zero.{zero_card}

-- the card's length in bytes
abbrev pub card_length : ℕ
card_length = 88

-- bytes 12-15 epoch, 16-27 mark, 28-39 velocity, 40-63 position, 64-87 solid tide vector
unfoldable pub card_fields : Card → Fields
card_fields c = (4, c.epoch) ∷ three 4 c.mark (three 4 c.velocity (three 8 c.position (three 8 c.solid [])))

unfoldable pub encode : Card → List ℕ
encode c = first_twelve c.site c.frame c.tide ++ run (card_fields c)

unfoldable pub decode : List ℕ → Card
decode s =
    record {
      site = take 9 s;
      frame = get_or s 9 0;
      tide = get_or s 10 0;
      epoch = signed_at s 12 4;
      mark = vector_at s 16 4;
      velocity = vector_at s 28 4;
      position = vector_at s 40 8;
      solid = vector_at s 64 8;
    }

-- 1 first, then the card's own; byte 11 belongs to 4
unfoldable pub read_number : List ℕ → ℕ
read_number s = first ((1, not (eqb (length s) card_length)) ∷ checks (eqb (get_or s 11 0) 0) (decode s))

-- a refused read gives the card of all zeros
unfoldable pub read_card : List ℕ → Answer
read_card s = record { number = read_number s; card = cond (eqb (read_number s) 0) (decode s) zero_card }

-- a writer's number: its buffer's length first of all
unfoldable pub write_number : Card → ℕ → ℕ
write_number c room = first ((1, not (eqb room card_length)) ∷ checks true c)

-- what the lent buffer holds afterwards: the card's bytes, or what it held
unfoldable pub written : Card → List ℕ → List ℕ
written c out = kept (write_number c (length out)) (encode c) out

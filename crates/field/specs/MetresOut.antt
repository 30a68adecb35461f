-- Metres out: the position's distance from the mark, each component the grain count as a double, divided once by 1461000000.
use Rattle.std.specs.Prelude.{cond, false, eqb, ℤ, pos, Float}
use Rattle.std.specs.Float.{fin, binary64}
use Rattle.std.specs.Float.Ieee.{of_int, div}
use Rattle.refusal.specs.Answered.{Answered}
use Rattle.mark.specs.Mark.{metre}
use Rattle.card.specs.declared.Card.{Card}
use Rattle.card.specs.Checks.{from_mark, card_number}
use Rattle.field.specs.declared.Metres.{Metres}

-- grains to metres, rounded once
unfoldable pub in_metres : ℤ → Float
in_metres z = div binary64 (of_int binary64 z) (of_int binary64 (pos metre))

-- +0
abbrev pub plus_zero : Float
plus_zero = fin false 0 (pos 0)

-- the metres that come with a refusal
abbrev pub no_metres : Metres
no_metres = record { x = plus_zero; y = plus_zero; z = plus_zero }

unfoldable pub metres_of : Card → Answered Metres
metres_of c =
    let d = from_mark c.mark c.position in
    let ok = eqb (card_number c) 0 in
    record {
      number = card_number c;
      value = record { x = cond ok (in_metres d.x) plus_zero; y = cond ok (in_metres d.y) plus_zero; z = cond ok (in_metres d.z) plus_zero };
    }

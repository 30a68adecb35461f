-- The C face beside the calls on a card's bytes: labels, the field edition, metres, the permanent shift, the series. The output's length comes
-- first (1), then the record's own checks. A refused call leaves the output as it was.
use Rattle.std.specs.Prelude.{cond, List, [], ◌∷◌, ℕ, ◌+◌, ◌*◌, ◌%◌, ◌^◌, eqb, leb, length, ℤ, Float}
use Rattle.refusal.specs.Outputs.{before, roomy, kept}
use Rattle.mark.specs.declared.Vec3.{Vec3}
use Rattle.mark.specs.Mark.{mark_number}
use Rattle.tides.specs.declared.BodyVector.{BodyVector}
use Rattle.tides.specs.declared.Body.{Body}
use Rattle.tides.specs.declared.Body.TheVariants.{Moon, Sun}
use Rattle.tides.specs.Permanent.{permanent}
use Rattle.series.specs.Series.{three}
use Rattle.card.specs.Calls.{Call, solid_on}
use Rattle.codec.specs.Codec.{card_length, encode, decode, read_number}
use Rattle.field.specs.declared.Metres.{Metres}
use Rattle.field.specs.Field.{field_length, field_of, export_number, field_number, opened_of, expanded_of}
use Rattle.field.specs.MetresOut.{metres_of}
use Rattle.catalogue.specs.Whole.{check_answer}

-- ---- labels

abbrev pub body_vector : Float → Float → Float → BodyVector
body_vector a b c = record { x = a; y = b; z = c }

-- 0 Moon, 1 Sun
unfoldable pub body_of : ℕ → BodyVector → Body
body_of label v = cond (eqb label 1) (Sun v) (Moon v)

-- a label that is neither makes no pair, and two Moons are none: 17 after 12
unfoldable pub solid_call : ℕ → BodyVector → ℕ → BodyVector → Call
solid_call k v l w = cond (leb k 1) (cond (leb l 1) (solid_on (body_of k v) (body_of l w)) (solid_on (Moon v) (Moon v))) (solid_on (Moon v) (Moon v))

-- ---- the field edition

unfoldable pub exported_number : ℕ → List ℕ → ℕ
exported_number room s = roomy field_length room (before (read_number s) (export_number (decode s) room))

unfoldable pub exported_out : List ℕ → List ℕ → List ℕ
exported_out out s = kept (exported_number (length out) s) (field_of (decode s)) out

unfoldable pub expanded_number : ℕ → List ℕ → ℕ
expanded_number room s = roomy card_length room (field_number s)

unfoldable pub expanded_out : List ℕ → List ℕ → List ℕ
expanded_out out s = kept (expanded_number (length out) s) (encode (expanded_of (opened_of s))) out

-- ---- three doubles, metres from the mark

unfoldable pub three_metres : Metres → List Float
three_metres m = m.x ∷ m.y ∷ m.z ∷ []

unfoldable pub metres_number : ℕ → List ℕ → ℕ
metres_number room s = roomy 3 room (read_number s)

unfoldable pub metres_out : List Float → List ℕ → List Float
metres_out out s = kept (metres_number (length out) s) (three_metres (metres_of (decode s)).value) out

-- ---- three numbers, the permanent shift in grains

unfoldable pub permanent_number : ℕ → Vec3 → ℕ
permanent_number room m = roomy 3 room (mark_number m)

unfoldable pub permanent_out : List ℤ → Vec3 → List ℤ
permanent_out out m = kept (permanent_number (length out) m) (three (permanent m)) out

-- ---- a number and a place in one: the number, and from bit 8 on the place. No memory holds 2^56 rows or cards.

unfoldable pub packed : ℕ → ℕ → ℕ
packed number place = number + 256 * (place % 2 ^ 56)

-- a series: the rows, or the bad row
abbrev pub packed_rows : ℕ × ℕ → ℕ
packed_rows r = packed r.0 r.1

-- a whole catalogue: the cards, or the bad card
unfoldable pub checked_catalogue : List ℕ → ℕ
checked_catalogue s = packed (check_answer s).0 (check_answer s).1

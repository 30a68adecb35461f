-- The field record, 48 bytes: the offset from the mark in 0.1 mm and the velocity in 0.1 mm a year. No solid tide.
use Rattle.std.specs.Prelude.{Bool, true, not, cond, ◌&&◌, List, [], ◌∷◌, ◌++◌, ℕ, eqb, leb, length, get_or, take, ℤ, pos}
use Rattle.refusal.specs.Refusal.{Table, first}
use Rattle.refusal.specs.Outputs.{kept}
use Rattle.octets.specs.Octets.{signed_at}
use Rattle.mark.specs.declared.Vec3.{Vec3}
use Rattle.mark.specs.Mark.{nowhere, each, plus, metre, sized, scaled}
use Rattle.layout.specs.Layout.{run, three, vector_at, first_twelve}
use Rattle.head.specs.State.{state_of}
use Rattle.head.specs.Head.{head_checks}
use Rattle.card.specs.declared.Card.{Card}
use Rattle.card.specs.declared.Answer.{Answer}
use Rattle.card.specs.Checks.{from_mark, checks}
use Rattle.card.specs.Zero.{zero_card}
use Rattle.field.specs.declared.record.Opened.{Opened}
use Rattle.numbers.specs.Near.{near}

abbrev pub field_length : ℕ
field_length = 48

unfoldable pub rounded_by : ℕ → Vec3 → Vec3
rounded_by b v = each (λ (z : ℤ). near z b) v

-- near(grains/146,100), units of 0.1 mm
unfoldable pub offset_of : Card → Vec3
offset_of c = rounded_by 146100 (from_mark c.mark c.position)

-- near(v/100), units of 0.1 mm a year
unfoldable pub speed_of : Card → Vec3
speed_of c = rounded_by 100 c.velocity

-- bytes 28-39 offset, 40-45 velocity at 16 bits, 46-47 zero
unfoldable pub field_of : Card → List ℕ
field_of c =
    first_twelve c.site c.frame c.tide
    ++ (run ((4, c.epoch) ∷ three 4 c.mark (three 4 (offset_of c) (three 2 (speed_of c) []))) ++ (0 ∷ 0 ∷ []))

-- an exporter's number: its buffer's length first of all, then the card's, then 12 with solid tide on
unfoldable pub export_number : Card → ℕ → ℕ
export_number c room = first ((1, not (eqb room field_length)) ∷ (checks true c ++ ((12, eqb (state_of c.tide) 2) ∷ [])))

unfoldable pub exported : Card → List ℕ → List ℕ
exported c out = kept (export_number c (length out)) (field_of c) out

-- ---- back

-- what the 48 bytes hold
unfoldable pub opened_of : List ℕ → Opened
opened_of s =
    record {
      site = take 9 s;
      frame = get_or s 9 0;
      tide = get_or s 10 0;
      epoch = signed_at s 12 4;
      mark = vector_at s 16 4;
      offset = vector_at s 28 4;
      speed = vector_at s 40 2;
    }

-- bytes 11, 46 and 47
unfoldable pub zero_bytes : List ℕ → Bool
zero_bytes s = eqb (get_or s 11 0) 0 && eqb (get_or s 46 0) 0 && eqb (get_or s 47 0) 0

-- the record's own checks from 2 on: byte 10 only 0 or 1, and the range of the offset is 8
unfoldable pub opened_checks : Bool → Opened → Table
opened_checks zeros f =
    head_checks f.site f.frame (zeros && leb f.tide 1) f.epoch f.mark
    ++ ((7, not (sized 5000 f.speed)) ∷ (8, not (sized 10000000 f.offset)) ∷ [])

unfoldable pub field_number : List ℕ → ℕ
field_number s = first ((1, not (eqb (length s) field_length)) ∷ opened_checks (zero_bytes s) (opened_of s))

-- expanding multiplies back, adds the mark and gives no solid tide
unfoldable pub expanded_of : Opened → Card
expanded_of f =
    record {
      site = f.site;
      frame = f.frame;
      tide = f.tide;
      epoch = f.epoch;
      mark = f.mark;
      velocity = scaled (pos 100) f.speed;
      position = plus (scaled (pos metre) f.mark) (scaled (pos 146100) f.offset);
      solid = nowhere;
    }

unfoldable pub expand_card : List ℕ → Answer
expand_card s = record { number = field_number s; card = cond (eqb (field_number s) 0) (expanded_of (opened_of s)) zero_card }

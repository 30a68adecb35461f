-- A card's checks 2 to 9, in the paper's order. A card is accepted where none is met.
use Rattle.std.specs.Prelude.{Bool, true, not, cond, ◌&&◌, ◌||◌, [], ◌∷◌, ◌++◌, ℕ, ◌*◌, T, eqb, pos}
use Rattle.refusal.specs.Refusal.{Table, first}
use Rattle.refusal.specs.Answered.{Answered}
use Rattle.mark.specs.declared.Vec3.{Vec3}
use Rattle.mark.specs.Mark.{nowhere, sized}
pub use Rattle.mark.specs.Mark.{metre}
unfoldable pub use Rattle.mark.specs.Mark.{minus, scaled}
use Rattle.head.specs.State.{state_of, state_fits}
use Rattle.head.specs.Head.{head_checks}
use Rattle.card.specs.declared.Card.{Card}

unfoldable pub is_zero : Vec3 → Bool
is_zero v = sized 0 v

-- byte 10 is 0, 1 or 2, and the tide vector is zero unless it is 2
unfoldable pub tide_fits : ℕ → Vec3 → Bool
tide_fits byte v = state_fits byte && (eqb (state_of byte) 2 || is_zero v)

-- micrometres a year
unfoldable pub velocity_fits : Vec3 → Bool
velocity_fits v = sized 500000 v

-- grains from the mark
unfoldable pub from_mark : Vec3 → Vec3 → Vec3
from_mark m p = minus p (scaled (pos metre) m)

unfoldable pub position_fits : Vec3 → Vec3 → Bool
position_fits m p = sized (1000 * metre) (from_mark m p)

unfoldable pub vector_fits : Vec3 → Bool
vector_fits v = sized metre v

-- ---- the table of the paper from 2 on: 2 to 6 are `head_checks`

-- 7 and 8
abbrev pub body_checks : Card → Table
body_checks c = (7, not (velocity_fits c.velocity)) ∷ (8, not (position_fits c.mark c.position)) ∷ []

-- from 9 on: what is stored
abbrev pub stored_checks : Card → Table
stored_checks c = (9, not (vector_fits c.solid)) ∷ []

-- all of them, in order; `zeros` says that the record's zero bytes are zero
unfoldable pub checks : Bool → Card → Table
checks zeros c =
    head_checks c.site c.frame (zeros && tide_fits c.tide c.solid) c.epoch c.mark ++ (body_checks c ++ stored_checks c)

-- a card value has no zero byte
unfoldable pub card_number : Card → ℕ
card_number c = first (checks true c)

-- a valid card
unfoldable pub Valid : Card → Type 0
Valid c = T (eqb (card_number c) 0)

-- where a card stands from its mark, grains; a refusal comes with zeros
unfoldable pub offset_answer : Card → Answered Vec3
offset_answer c = record { number = card_number c; value = cond (eqb (card_number c) 0) (from_mark c.mark c.position) nowhere }

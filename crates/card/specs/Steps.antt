-- What the private steps of the card answer, in the words of the paper's definitions.
use Rattle.std.specs.Prelude.{cond, ℕ, eqb, Result, Ok, Err, ⊤}
use Rattle.refusal.specs.Refusal.{first}
use Rattle.refusal.specs.declared.Refusal.{Refusal}
use Rattle.refusal.specs.declared.Refusal.TheVariants as Is
use Rattle.refusal.specs.Answered.{number_of}
use Rattle.mark.specs.declared.Vec3.{Vec3}
use Rattle.frames.specs.Frame.{frame_b, frame_at}
use Rattle.head.specs.State.{state_of, with_state}
use Rattle.card.specs.declared.Card.{Card}
use Rattle.card.specs.declared.calls.AtEpoch.{AtEpoch}
use Rattle.card.specs.declared.Answer.{Answer}
use Rattle.card.specs.Calls.{Call, next, own, settle, near_mark, with_position}

-- a call on a card that passed its own checks
unfoldable pub after : Card → Call → Answer
after c k = settle (first (own c (next c k) k)) c (next c k)

-- a call's answer by what comes next: a refused call hands back the card that it was handed
abbrev pub settled : Card → Result Card Refusal → Answer
settled c (Ok n) = record { number = 0; card = n }
settled c (Err e) = record { number = number_of e; card = c }

-- the state that a tide call starts from
abbrev pub in_state : Card → ℕ → Result ⊤ Refusal
in_state c from = cond (eqb (state_of c.tide) from) (Ok tt) (Err Is.TideState)

-- the end of a tide call on such a card: another state, position and stored vector
unfoldable pub retided : Card → ℕ → Vec3 → Vec3 → Answer
retided c to p v =
    let n = with_position c (with_state c.tide to) p v in
    settle (first (near_mark n)) c n

-- what a frame gives at the card's mark and epoch
abbrev pub framed : Card → ℕ → AtEpoch
framed c g = record { at = frame_at g c.mark c.epoch; rate = frame_b g c.mark }

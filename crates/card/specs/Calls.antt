-- The calls on a card, each in one form: its own checks, the card that comes next, and one way to settle the two.
use Rattle.std.specs.Prelude.{true, not, cond, [], ◌∷◌, ◌++◌, ℕ, eqb, ℤ, ◌+ℤ◌}
use Rattle.refusal.specs.Refusal.{Table, first}
use Rattle.mark.specs.declared.Vec3.{Vec3}
use Rattle.mark.specs.Mark.{nowhere, plus, minus, scaled}
use Rattle.frames.specs.Frame.{known_frame, frame_shift, frame_gain}
use Rattle.tides.specs.declared.Body.{Body}
use Rattle.tides.specs.Permanent.{permanent}
use Rattle.tides.specs.Bodies.{moon_of, sun_of}
use Rattle.tides.specs.Tide.{tide, pair_checks}
use Rattle.head.specs.State.{state_of, with_state}
use Rattle.head.specs.Head.{epoch_fits}
use Rattle.card.specs.declared.Card.{Card}
use Rattle.card.specs.declared.Answer.{Answer}
use Rattle.card.specs.Checks.{velocity_fits, position_fits, checks}
use Rattle.card.specs.declared.Call as declared
use Rattle.card.specs.declared.Call.TheVariants as Is

-- a call as data
pub data Call : Type 0 where
  move : ℤ → Call
  frame : ℕ → Call
  mean_on : Call
  mean_off : Call
  solid_on : Body → Body → Call
  solid_off : Call

abbrev pub with_position : Card → ℕ → Vec3 → Vec3 → Card
with_position c byte p v =
    record { site = c.site; frame = c.frame; tide = byte; epoch = c.epoch; mark = c.mark; velocity = c.velocity; position = p; solid = v }

-- epoch plus d, position plus velocity x d
unfoldable pub moved : ℤ → Card → Card
moved d c =
    record {
      site = c.site;
      frame = c.frame;
      tide = c.tide;
      epoch = c.epoch +ℤ d;
      mark = c.mark;
      velocity = c.velocity;
      position = plus c.position (scaled d c.velocity);
      solid = c.solid;
    }

-- position gains (A_g + B_g x epoch) - (A_f + B_f x epoch); velocity gains B_g - B_f
unfoldable pub reframed : ℕ → Card → Card
reframed g c =
    record {
      site = c.site;
      frame = g;
      tide = c.tide;
      epoch = c.epoch;
      mark = c.mark;
      velocity = plus c.velocity (frame_gain c.frame g c.mark);
      position = plus c.position (frame_shift c.frame g c.epoch c.mark);
      solid = c.solid;
    }

unfoldable pub next : Card → Call → Card
next c (move d) = moved d c
next c (frame g) = reframed g c
next c mean_on = with_position c (with_state c.tide 1) (plus c.position (permanent c.mark)) c.solid
next c mean_off = with_position c (with_state c.tide 0) (minus c.position (permanent c.mark)) c.solid
next c (solid_on a b) =
    let v = tide c.mark (moon_of a b) (sun_of a b) in
    with_position c (with_state c.tide 2) (plus c.position v) v
next c solid_off = with_position c (with_state c.tide 0) (minus c.position c.solid) nowhere

-- the last check of every call: the position stays near the mark
abbrev pub near_mark : Card → Table
near_mark n = (8, not (position_fits n.mark n.position)) ∷ []

-- a tide call's own: byte 10 is in the state that it starts from, what it asks besides, and the last check
abbrev pub tide_checks : ℕ → Table → Card → Card → Table
tide_checks from besides c n = (12, not (eqb (state_of c.tide) from)) ∷ besides ++ near_mark n

-- a call's own checks, on the card c and the card n that comes next
unfoldable pub own : Card → Card → Call → Table
own c n (move d) = (13, eqb (state_of c.tide) 2) ∷ (5, not (epoch_fits n.epoch)) ∷ near_mark n
own c n (frame g) = (3, not (known_frame g)) ∷ (7, not (velocity_fits n.velocity)) ∷ near_mark n
own c n mean_on = tide_checks 0 [] c n
own c n mean_off = tide_checks 1 [] c n
own c n (solid_on a b) = tide_checks 0 (pair_checks a b) c n
own c n solid_off = tide_checks 2 [] c n

-- the card's checks, then the call's own
unfoldable pub call_number : Card → Call → ℕ
call_number c k = first (checks true c ++ own c (next c k) k)

-- a refused call hands back the card that it was handed
unfoldable pub settle : ℕ → Card → Card → Answer
settle n c after = record { number = n; card = cond (eqb n 0) after c }

unfoldable pub step : Card → Call → Answer
step c k = settle (call_number c k) c (next c k)

-- the paper's call of each case
abbrev pub call_of : declared.Call → Call
call_of (Is.Move d) = move d
call_of (Is.Frame g) = frame g
call_of Is.MeanOn = mean_on
call_of Is.MeanOff = mean_off
call_of (Is.SolidOn a b) = solid_on a b
call_of Is.SolidOff = solid_off

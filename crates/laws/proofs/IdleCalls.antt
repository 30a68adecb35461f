-- Calls that change nothing: a move by 0, and the frame that the card has. Both are accepted, and give the card itself.
use mathlib.Core.Path.{◌≡◌, ◌∙◌, ap}
use mathlib.Core.Bool.{false}
use lib.Dec.{eqb}
use lib.IntN.{pos}
use Rattle.refusal.specs.Refusal.{first}
use Rattle.frames.specs.Frame.{frame_shift, frame_gain, frame_at, frame_b}
use Rattle.head.specs.State.{state_of}
use Rattle.card.specs.declared.Card.{Card}
use Rattle.card.specs.declared.Answer.{Answer}
use Rattle.card.specs.Checks.{Valid}
use Rattle.card.specs.Calls.{Call, move, frame, moved, reframed, next, own, call_number, settle, step}
use Rattle.card.proofs.CheckLaws.{Passed, valid-number, valid-passed}
use Rattle.card.proofs.CallLaws.{own-number}
use Rattle.laws.proofs.VectorLaws.{unmoved, scaled-nothing, gained-nothing}

-- accepted, with this card
abbrev pub given : Card → Answer
given c = record { number = 0; card = c }

-- a call whose next card is the card itself, and whose own checks pass on it
idle : (c : Card) (k : Call) → Valid c → next c k ≡ c → first (own c c k) ≡ 0 → step c k ≡ given c
unfolding step settle
idle c k v e f =
    let n : call_number c k ≡ 0 = own-number c k (valid-number c v) ∙ ap (λ (d : Card). first (own c d k)) e ∙ f in
    rw (n, e)

-- ---- move by 0

moved_nothing : (c : Card) → next c (move (pos 0)) ≡ c
unfolding next moved
moved_nothing c =
    λ i. record {
      site = c.site;
      frame = c.frame;
      tide = c.tide;
      epoch = unmoved c.epoch i;
      mark = c.mark;
      velocity = c.velocity;
      position = scaled-nothing c.position c.velocity i;
      solid = c.solid;
    }

move-passes : (c : Card) → Passed c → eqb (state_of c.tide) 2 ≡ false → first (own c c (move (pos 0))) ≡ 0
unfolding own first
move-passes c p h = rw (h, p.epoch, p.position)

-- every valid card without solid tide; with it a move is refused with 13, also by 0
pub move-by-nothing : (c : Card) → Valid c → eqb (state_of c.tide) 2 ≡ false → step c (move (pos 0)) ≡ given c
move-by-nothing c v h = idle c (move (pos 0)) v (moved_nothing c) (move-passes c (valid-passed c v) h)

-- ---- the frame that the card has

reframed-nothing : (c : Card) → next c (frame c.frame) ≡ c
unfolding next reframed frame_shift frame_gain
reframed-nothing c =
    λ i. record {
      site = c.site;
      frame = c.frame;
      tide = c.tide;
      epoch = c.epoch;
      mark = c.mark;
      velocity = gained-nothing c.velocity (frame_b c.frame c.mark) i;
      position = gained-nothing c.position (frame_at c.frame c.mark c.epoch) i;
      solid = c.solid;
    }

frame-passes : (c : Card) → Passed c → first (own c c (frame c.frame)) ≡ 0
unfolding own first
frame-passes c p = rw (p.frame, p.velocity, p.position)

-- every valid card, with solid tide too
pub frame-to-itself : (c : Card) → Valid c → step c (frame c.frame) ≡ given c
frame-to-itself c v = idle c (frame c.frame) v (reframed-nothing c) (frame-passes c (valid-passed c v))

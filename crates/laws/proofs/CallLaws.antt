-- One call: an accepted one gives the next card, with its frame and its tides; a refused one hands the card back.
use mathlib.Core.Path.{◌≡◌, refl}
use mathlib.Core.Bool.{Bool, true, false, cond}
use lib.Dec.{T, eqb→eq}
use lib.IntN.{pos}
use Rattle.card.specs.declared.Card.{Card}
use Rattle.card.specs.Calls.{Call, move, frame, mean_on, mean_off, solid_on, solid_off, moved, reframed, next, call_number, settle, step}
use Rattle.laws.specs.Lists.{accepts, move_of, gain, unmoving, tides_of, frame_after, tides_after}

-- ---- the two outcomes of a call

pub accepted-card : (c : Card) (k : Call) → call_number c k ≡ 0 → (step c k).card ≡ next c k
unfolding step settle
accepted-card c k e = rw e

pub accepted-gain : (c : Card) (k : Call) → call_number c k ≡ 0 → gain c k ≡ move_of k
unfolding gain
accepted-gain c k e = rw e

-- a frame change or a tide gains nothing, accepted or refused
pub still-gain : (c : Card) (k : Call) → T (unmoving k) → gain c k ≡ pos 0
unfolding gain
still-gain c k h = either (accepts c k)
  where
    nothing : (k : Call) → T (unmoving k) → move_of k ≡ pos 0
    nothing (move d) h = absurd h
    nothing (frame g) h = refl
    nothing mean_on h = refl
    nothing mean_off h = refl
    nothing (solid_on a b) h = refl
    nothing solid_off h = refl

    either : (t : Bool) → cond t (move_of k) (pos 0) ≡ pos 0
    either true = nothing k h
    either false = refl

-- a call is settled one way or the other: what holds of the next card where it is accepted, and of the card itself where it is
-- refused, holds of the card that comes out
pub settled :
    (P : Bool → Card → Type 0) (c : Card) (k : Call)
    → (call_number c k ≡ 0 → P true (next c k))
    → P false c
    → P (accepts c k) (step c k).card
unfolding step settle
settled P c k f r = go (accepts c k) (eqb→eq (call_number c k) 0)
  where
    go : (t : Bool) → (T t → call_number c k ≡ 0) → P t (cond t (next c k) c)
    go true h = f (h tt)
    go false h = r

-- ---- what a call makes of the frame and of the tides in force

pub frame-next : (c : Card) (k : Call) → (next c k).frame ≡ frame_after c.frame k
unfolding next moved reframed frame_after
frame-next c (move d) = refl
frame-next c (frame g) = refl
frame-next c mean_on = refl
frame-next c mean_off = refl
frame-next c (solid_on a b) = refl
frame-next c solid_off = refl

pub tides-next : (c : Card) (k : Call) → tides_of (next c k) ≡ tides_after c.mark (tides_of c) k
unfolding next moved reframed tides_after
tides-next c (move d) = refl
tides-next c (frame g) = refl
tides-next c mean_on = refl
tides-next c mean_off = refl
tides-next c (solid_on a b) = refl
tides-next c solid_off = refl

pub frame_step : (c : Card) (k : Call) → (step c k).card.frame ≡ cond (accepts c k) (frame_after c.frame k) c.frame
frame_step c k =
    settled (λ (t : Bool) (n : Card). n.frame ≡ cond t (frame_after c.frame k) c.frame) c k (λ e. frame-next c k) refl

pub tides-step :
    (c : Card) (k : Call) → tides_of (step c k).card ≡ cond (accepts c k) (tides_after c.mark (tides_of c) k) (tides_of c)
tides-step c k =
    settled (λ (t : Bool) (n : Card). tides_of n ≡ cond t (tides_after c.mark (tides_of c) k) (tides_of c)) c k
    (λ e. tides-next c k) refl

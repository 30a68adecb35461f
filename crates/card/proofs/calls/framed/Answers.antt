-- A and B of the frame at the mark. A valid card and a known frame are never refused.
use Rattle.std.proofs.Common.{◌≡◌, ◌∙◌, ap, ap₂, refl, lit<, lit≤, ℕ, ◌≤◌, true, T, Ok, Err}
use native.Mathlib.Omega.{arith}
use lib.IntN.{nat_abs}
use Rattle.algebra.proofs.Machine.{rd, plain, at}
use Rattle.refusal.specs.Answered.{answered}
use Rattle.refusal.specs.declared.Refusal.{Refusal}
use Rattle.mark.specs.declared.Vec3.{Vec3}
use Rattle.mark.specs.Mark as M
use Rattle.mark.specs.Mark.{plus, scaled}
use Rattle.mark.specs.Ranges.{Within}
use Rattle.mark.proofs.SizeLaws.{sized-as, scaled-within}
use Rattle.frames.specs.declared.Terms.{Terms}
use Rattle.frames.specs.Frame.{known_frame, frame_a, frame_b, frame_at, no_terms, terms_answer}
use Rattle.frames.proofs.FrameLaws.{terms-accepted, terms-never}
use Rattle.frames.proofs.RowLaws.{most_b, frame-a-within, frame-b-within}
use Rattle.card.specs.declared.Card.{Card}
use Rattle.card.specs.declared.calls.AtEpoch.{AtEpoch}
use Rattle.card.specs.Checks as K
use Rattle.card.specs.Steps as S
use Rattle.card.proofs.CheckLaws.{Small, valid-small, valid-passed}
use Rattle.card.proofs.calls.framed.Goals as goal

-- ---- what came back for a valid card and a known frame

module _ (c : Card) (g : ℕ) (v : K.Valid c) (k : known_frame g ≡ true) where
  small : Small c
  small = valid-small c v

  never : (d : Refusal) → answered no_terms (Err d) ≡ terms_answer g c.mark → ⊥
  never d q = terms-never g c.mark k (valid-passed c v).mark d q

  epoch-is : rd c.epoch ≡ c.epoch
  epoch-is = (at (plain c.epoch small.epoch) (lit< tt)).told

  epoch-small : nat_abs (rd c.epoch) ≤ 1000000
  epoch-small = omega (arith, small.epoch, ap nat_abs epoch-is)

  module _ (t : Terms) (q : answered no_terms (Ok t) ≡ terms_answer g c.mark) where
    a-is : t.a ≡ frame_a g c.mark
    a-is = (terms-accepted g c.mark k (valid-passed c v).mark t q).0

    b-is : t.b ≡ frame_b g c.mark
    b-is = (terms-accepted g c.mark k (valid-passed c v).mark t q).1

    rate-small : Within most_b (frame_b g c.mark)
    rate-small = frame-b-within g c.mark small.mark

    rate-sized : T (M.sized 1000000000000 t.b)
    rate-sized = sized-as b-is rate-small (lit≤ tt)

    a-sized : T (M.sized 4000000000000000000 t.a)
    a-sized = sized-as a-is (frame-a-within g c.mark small.mark) (lit≤ tt)

    drift-is : (w : Vec3) → w ≡ scaled (rd c.epoch) t.b → w ≡ scaled c.epoch (frame_b g c.mark)
    drift-is w e = e ∙ ap₂ scaled epoch-is b-is

    drift-sized : (w : Vec3) → w ≡ scaled (rd c.epoch) t.b → T (M.sized 4000000000000000000 w)
    drift-sized w e = sized-as (drift-is w e) (scaled-within c.epoch small.epoch rate-small) (lit≤ tt)

    framed-is : (w p : Vec3) → w ≡ scaled (rd c.epoch) t.b → p ≡ plus t.a w → ◌≡◌ {A = AtEpoch} (record { at = p; rate = t.b }) (S.framed c g)
    unfolding frame_at
    framed-is w p e f = rw (f, a-is, drift-is w e, b-is) refl

pub returns-in_err-t : goal.returns-in_err-t
returns-in_err-t c = absurd (never c.args.c c.args.frame c.requires.valid c.requires.frame_value c.in_err-t.field-0.0 c.in_err-t.ensures)

pub scaled-requires-clause-k_bound : goal.scaled-requires-clause-k_bound
scaled-requires-clause-k_bound c = epoch-small c.args.c c.args.frame c.requires.valid c.requires.frame_value

pub scaled-requires-clause-t : goal.scaled-requires-clause-t
scaled-requires-clause-t c = rate-sized c.args.c c.args.frame c.requires.valid c.requires.frame_value c.in_ok-t.t c.in_ok-t.ensures

pub plus-at-requires-clause-t : goal.plus-at-requires-clause-t
plus-at-requires-clause-t c = a-sized c.args.c c.args.frame c.requires.valid c.requires.frame_value c.in_ok-t.t c.in_ok-t.ensures

pub plus-at-requires-clause-t_2 : goal.plus-at-requires-clause-t_2
plus-at-requires-clause-t_2 c =
    drift-sized c.args.c c.args.frame c.requires.valid c.requires.frame_value c.in_ok-t.t c.in_ok-t.ensures c.scaled.result c.scaled.ensures

pub returns : goal.returns
returns c =
    ap Ok (framed-is c.args.c c.args.frame c.requires.valid c.requires.frame_value c.in_ok-t.t c.in_ok-t.ensures c.scaled.result c.plus-at.result c.scaled.ensures c.plus-at.ensures)

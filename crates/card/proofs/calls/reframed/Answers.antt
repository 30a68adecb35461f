-- What both frames give at the mark and epoch, then velocity and position.
use Rattle.std.proofs.Common.{rules, ◌≡◌, refl, sym, ◌∙◌, ap, ap₂, lit≤, ℕ, true, false, T, Err}
use Rattle.algebra.proofs.Machine.{rd, plain, at}
use lib.Dec.{lit<}
use Rattle.refusal.specs.declared.Refusal.TheVariants as Refused
use Rattle.mark.specs.declared.Vec3.{Vec3}
use Rattle.mark.specs.Mark.{plus, minus, sized}
use Rattle.mark.proofs.LengthLaws.{widen}
use Rattle.mark.proofs.SizeLaws.{within-sized, sized-as}
use Rattle.frames.specs.Frame.{known_frame, frame_shift, frame_gain}
use Rattle.frames.specs.Known.{code_of}
use Rattle.frames.proofs.KnownLaws.{code-known}
use Rattle.frames.proofs.RowLaws.{frame-b-within, at-within, gain-within, shift-within}
use Rattle.frames.specs.declared.known.Frame.{Frame}
use Rattle.card.specs.declared.Card.{Card}
use Rattle.card.specs.declared.Answer.{Answer}
use Rattle.card.specs.declared.calls.AtEpoch.{AtEpoch}
use Rattle.card.specs.Checks.{card_number, velocity_fits, position_fits, Valid}
use Rattle.card.specs.Calls.{frame, step}
use Rattle.card.specs.Steps as S
use Rattle.card.specs.Steps.{after, framed}
use Rattle.card.proofs.CheckLaws.{Small, valid-small, valid-passed, number-valid}
use Rattle.card.proofs.StepLaws.{answer, check-refused, check-passed, new_velocity, new_position, reframed-unknown, reframed-fast, reframed-far, reframed-near}
use Rattle.card.proofs.calls.reframed.Goals as goal

module _ (c : Card) (q : 0 ≡ card_number c) where
  valid : Valid c
  valid = number-valid c (sym q)

  small : Small c
  small = valid-small c valid

  epoch-is : rd c.epoch ≡ c.epoch
  epoch-is = (at (plain c.epoch small.epoch) (lit< tt)).told

  rate-sized : (g : ℕ) (a : AtEpoch) → a ≡ framed c g → T (sized 4000000000000000000 a.rate)
  rate-sized g a e = sized-as (ap (λ (x : AtEpoch). x.rate) e) (frame-b-within g c.mark small.mark) (lit≤ tt)

  at-sized : (g : ℕ) (a : AtEpoch) → a ≡ framed c g → T (sized 4000000000000000000 a.at)
  at-sized g a e = sized-as (ap (λ (x : AtEpoch). x.at) e) (at-within c.epoch c.mark small.mark small.epoch g) (lit≤ tt)

  module _ (g : ℕ) where
    onward : {a : Answer} → a ≡ after c (frame g) → a ≡ step c (frame g)
    onward e = e ∙ check-passed c (frame g) q

    unknown : known_frame g ≡ false → answer 3 c ≡ step c (frame g)
    unknown h = onward (reframed-unknown c g h)

    module _ (m n : AtEpoch) (a : m ≡ framed c c.frame) (b : n ≡ framed c g) (d v : Vec3) (x : d ≡ minus n.rate m.rate) where
      gain-is : d ≡ frame_gain c.frame g c.mark
      unfolding frame_gain
      gain-is = x ∙ ap₂ (λ (k l : AtEpoch). minus k.rate l.rate) b a

      gain-sized : T (sized 4000000000000000000 d)
      gain-sized = sized-as gain-is (gain-within c.frame g c.mark small.mark) (lit≤ tt)

      module _ (y : v ≡ plus c.velocity d) where
        velocity-is : v ≡ new_velocity c g
        velocity-is = y ∙ ap (plus c.velocity) gain-is

        fast-is : sized 500000 v ≡ velocity_fits (new_velocity c g)
        unfolding velocity_fits
        fast-is = ap (sized 500000) velocity-is

        fast : known_frame g ≡ true → sized 500000 v ≡ false → answer 7 c ≡ step c (frame g)
        fast h s = onward (reframed-fast c g h (sym fast-is ∙ s))

        module _ (w p : Vec3) (z : w ≡ minus n.at m.at) (u : p ≡ plus c.position w) where
          shift_is : w ≡ frame_shift c.frame g c.epoch c.mark
          unfolding frame_shift
          shift_is = z ∙ ap₂ (λ (k l : AtEpoch). minus k.at l.at) b a

          shift-sized : T (sized 4000000000000000000 w)
          shift-sized = sized-as shift_is (shift-within c.epoch c.mark small.mark small.epoch c.frame g) (lit≤ tt)

          place_is : p ≡ new_position c g
          place_is = u ∙ ap (plus c.position) shift_is

          module _ (h : known_frame g ≡ true) (s : sized 500000 v ≡ true) where
            far : position_fits c.mark p ≡ false → answer 8 c ≡ step c (frame g)
            far f = onward (reframed-far c g h (sym fast-is ∙ s) (sym (ap (position_fits c.mark) place_is) ∙ f))

            near : (k : ℕ) → k ≡ g → position_fits c.mark p ≡ true
                → answer 0 (record { site = c.site; frame = k; tide = c.tide; epoch = rd c.epoch; mark = c.mark; velocity = v; position = p; solid = c.solid }) ≡ step c (frame g)
            near k e f = rw (e, epoch-is) (onward (reframed-near c g h v p (sym fast-is ∙ s) (sym (ap (position_fits c.mark) place_is) ∙ f) velocity-is place_is))

-- the code of a frame that was known
known-as : (f : Frame) (g : ℕ) → code_of f ≡ g → known_frame g ≡ true
known-as f g e = sym (ap known_frame e) ∙ code-known f

pub returns-in_err-check : goal.returns-in_err-check
returns-in_err-check c =
    let e = c.in_err-check.field-0.0 in
    let r : c.from_residual.result ≡ Err e = search rules in
    ap (S.settled c.args.c) r ∙ check-refused c.args.c (frame c.args.frame) e c.in_err-check.ensures

pub returns-in_err-try_from : goal.returns-in_err-try_from
returns-in_err-try_from c =
    let r : c.from_residual-in_err-try_from.result ≡ Err Refused.Frame = search rules in
    let u : known_frame c.args.frame ≡ false = search rules in
    ap (S.settled c.args.c) r ∙ unknown c.args.c c.in_ok-check.ensures c.args.frame u

pub framed-requires-clause-valid : goal.framed-requires-clause-valid
framed-requires-clause-valid c = valid c.args.c c.in_ok-check.ensures

pub framed-requires-clause-frame_value : goal.framed-requires-clause-frame_value
framed-requires-clause-frame_value c = (valid-passed c.args.c (valid c.args.c c.in_ok-check.ensures)).frame

pub framed-requires-2-clause-valid : goal.framed-requires-2-clause-valid
framed-requires-2-clause-valid c = valid c.args.c c.in_ok-check.ensures

pub framed-requires-2-clause-frame_value : goal.framed-requires-2-clause-frame_value
framed-requires-2-clause-frame_value c = known-as c.in_ok-try_from.field-0 c.code-code.result (sym c.code-code.ensures)

pub minus-requires-clause-t : goal.minus-requires-clause-t
minus-requires-clause-t c =
    let b : c.in_ok-g.g ≡ framed c.args.c c.code-code.result = search rules in
    rate-sized c.args.c c.in_ok-check.ensures c.code-code.result c.in_ok-g.g b

pub minus-requires-clause-t_2 : goal.minus-requires-clause-t_2
minus-requires-clause-t_2 c =
    let a : c.in_ok-f.f ≡ framed c.args.c c.args.c.frame = search rules in
    rate-sized c.args.c c.in_ok-check.ensures c.args.c.frame c.in_ok-f.f a

pub plus-velocity-requires-clause-t : goal.plus-velocity-requires-clause-t
plus-velocity-requires-clause-t c = within-sized (widen (small c.args.c c.in_ok-check.ensures).velocity (lit≤ tt))

pub plus-velocity-requires-clause-t_2 : goal.plus-velocity-requires-clause-t_2
plus-velocity-requires-clause-t_2 c =
    let a : c.in_ok-f.f ≡ framed c.args.c c.args.c.frame = search rules in
    let b : c.in_ok-g.g ≡ framed c.args.c c.code-code.result = search rules in
    gain-sized c.args.c c.in_ok-check.ensures c.code-code.result c.in_ok-f.f c.in_ok-g.g a b c.minus.result c.minus.result c.minus.ensures

pub returns-then-not-sized : goal.returns-then-not-sized
returns-then-not-sized c =
    let k : c.code-code.result ≡ c.args.frame = search rules in
    let a : c.in_ok-f.f ≡ framed c.args.c c.args.c.frame = search rules in
    let b : c.in_ok-g.g ≡ framed c.args.c c.code-code.result = search rules in
    let s : sized 500000 c.plus-velocity.result ≡ false = search rules in
    fast c.args.c c.in_ok-check.ensures c.code-code.result c.in_ok-f.f c.in_ok-g.g a b c.minus.result c.plus-velocity.result c.minus.ensures c.plus-velocity.ensures
    (known-as c.in_ok-try_from.field-0 c.code-code.result (sym c.code-code.ensures)) s
    ∙ ap (λ (g : ℕ). step c.args.c (frame g)) k

pub minus-requires-2-clause-t : goal.minus-requires-2-clause-t
minus-requires-2-clause-t c =
    let b : c.in_ok-g.g ≡ framed c.args.c c.code-code.result = search rules in
    at-sized c.args.c c.in_ok-check.ensures c.code-code.result c.in_ok-g.g b

pub minus-requires-2-clause-t_2 : goal.minus-requires-2-clause-t_2
minus-requires-2-clause-t_2 c =
    let a : c.in_ok-f.f ≡ framed c.args.c c.args.c.frame = search rules in
    at-sized c.args.c c.in_ok-check.ensures c.args.c.frame c.in_ok-f.f a

pub plus-position-requires-clause-t : goal.plus-position-requires-clause-t
plus-position-requires-clause-t c = within-sized (widen (small c.args.c c.in_ok-check.ensures).position (lit≤ tt))

pub plus-position-requires-clause-t_2 : goal.plus-position-requires-clause-t_2
plus-position-requires-clause-t_2 c =
    let a : c.in_ok-f.f ≡ framed c.args.c c.args.c.frame = search rules in
    let b : c.in_ok-g.g ≡ framed c.args.c c.code-code.result = search rules in
    shift-sized c.args.c c.in_ok-check.ensures c.code-code.result c.in_ok-f.f c.in_ok-g.g a b c.minus.result c.plus-velocity.result c.minus.ensures c.plus-velocity.ensures
    c.minus-2.result _ c.minus-2.ensures refl

pub position_fits-requires : goal.position_fits-requires
position_fits-requires c = within-sized (small c.args.c c.in_ok-check.ensures).mark

pub returns-then-not-position_fits : goal.returns-then-not-position_fits
returns-then-not-position_fits c =
    let k : c.code-code.result ≡ c.args.frame = search rules in
    let a : c.in_ok-f.f ≡ framed c.args.c c.args.c.frame = search rules in
    let b : c.in_ok-g.g ≡ framed c.args.c c.code-code.result = search rules in
    let s : sized 500000 c.plus-velocity.result ≡ true = search rules in
    let f : position_fits c.args.c.mark c.plus-position.result ≡ false = search rules in
    far c.args.c c.in_ok-check.ensures c.code-code.result c.in_ok-f.f c.in_ok-g.g a b c.minus.result c.plus-velocity.result c.minus.ensures c.plus-velocity.ensures
    c.minus-2.result c.plus-position.result c.minus-2.ensures c.plus-position.ensures
    (known-as c.in_ok-try_from.field-0 c.code-code.result (sym c.code-code.ensures)) s f
    ∙ ap (λ (g : ℕ). step c.args.c (frame g)) k

pub returns : goal.returns
returns c =
    let k : c.code-code.result ≡ c.args.frame = search rules in
    let a : c.in_ok-f.f ≡ framed c.args.c c.args.c.frame = search rules in
    let b : c.in_ok-g.g ≡ framed c.args.c c.code-code.result = search rules in
    let s : sized 500000 c.plus-velocity.result ≡ true = search rules in
    let f : position_fits c.args.c.mark c.plus-position.result ≡ true = search rules in
    near c.args.c c.in_ok-check.ensures c.code-code.result c.in_ok-f.f c.in_ok-g.g a b c.minus.result c.plus-velocity.result c.minus.ensures c.plus-velocity.ensures
    c.minus-2.result c.plus-position.result c.minus-2.ensures c.plus-position.ensures
    (known-as c.in_ok-try_from.field-0 c.code-code.result (sym c.code-code.ensures)) s c.code-code.result refl f
    ∙ ap (λ (g : ℕ). step c.args.c (frame g)) k

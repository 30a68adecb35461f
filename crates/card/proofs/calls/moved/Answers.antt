-- A move longer than the whole range of the epoch does not stay in it.
use Rattle.std.proofs.Common.{rules, ◌≡◌, sym, ◌∙◌, ap, refl, lit<, lit≤, ◌+◌, ◌≤◌, ◌<◌, true, false, T, Err, ℤ, ◌+ℤ◌}
use lib.IntN.{nat_abs}
use Rattle.algebra.proofs.Machine.{rd, Va, plain, at, v+, fit}
use Rattle.mark.specs.declared.Vec3.{Vec3}
use Rattle.mark.specs.Mark.{plus, scaled, sized}
use Rattle.mark.proofs.LengthLaws.{widen}
use Rattle.mark.proofs.SizeLaws.{within-sized, sized-as, scaled-within}
use Rattle.head.specs.State.{state_of}
use Rattle.head.specs.Head.{epoch_fits}
use Rattle.card.specs.declared.Card.{Card}
use Rattle.card.specs.declared.Answer.{Answer}
use Rattle.card.specs.Checks.{card_number, position_fits}
use Rattle.card.specs.Calls.{move, step}
use Rattle.card.specs.Steps as S
use Rattle.card.specs.Steps.{after}
use Rattle.card.proofs.CheckLaws.{Small, valid-small, number-valid}
use Rattle.card.proofs.StepLaws.{answer, check-refused, check-passed, moved-tide, moved-epoch, moved-far, moved-near, too_long}
use Rattle.card.proofs.calls.moved.Goals as goal

module _ (c : Card) (d : ℤ) (q : 0 ≡ card_number c) where
  small : Small c
  small = valid-small c (number-valid c (sym q))

  onward : {a : Answer} → a ≡ after c (move d) → a ≡ step c (move d)
  onward e = e ∙ check-passed c (move d) q

  tide-on : state_of c.tide ≡ 2 → answer 13 c ≡ step c (move d)
  tide-on h = onward (moved-tide c d h)

  module _ (h : state_of c.tide ≡ 2 → ⊥) where
    long : 292200 < nat_abs d → answer 5 c ≡ step c (move d)
    long far = onward (moved-epoch c d h (too_long c.epoch d small.epoch far))

    module _ (short : nat_abs d ≤ 292200) where
      later : Va (rd c.epoch +ℤ rd d) (c.epoch +ℤ d) (146100 + 292200)
      later = v+ (at (plain c.epoch small.epoch) (lit< tt)) (at (plain d short) (lit< tt))

      outside : epoch_fits (rd (rd c.epoch +ℤ rd d)) ≡ false → answer 5 c ≡ step c (move d)
      outside e = onward (moved-epoch c d h (sym (ap epoch_fits (at later (lit< tt)).told) ∙ e))

      module _ (w p : Vec3) (x : w ≡ scaled (rd d) c.velocity) (y : p ≡ plus c.position w) where
        way-is : w ≡ scaled d c.velocity
        way-is = x ∙ ap (λ k. scaled k c.velocity) (at (plain d short) (lit< tt)).told

        way-sized : T (sized 4000000000000000000 w)
        way-sized = sized-as way-is (scaled-within d short small.velocity) (lit≤ tt)

        place_is : p ≡ plus c.position (scaled d c.velocity)
        place_is = y ∙ ap (plus c.position) way-is

        module _ (e : epoch_fits (rd (rd c.epoch +ℤ rd d)) ≡ true) where
          inside : epoch_fits (c.epoch +ℤ d) ≡ true
          inside = sym (ap epoch_fits (at later (lit< tt)).told) ∙ e

          far : position_fits c.mark p ≡ false → answer 8 c ≡ step c (move d)
          far f = onward (moved-far c d h inside (sym (ap (position_fits c.mark) place_is) ∙ f))

          near : position_fits c.mark p ≡ true
              → answer 0 (record { site = c.site; frame = c.frame; tide = c.tide; epoch = rd (rd c.epoch +ℤ rd d); mark = c.mark; velocity = c.velocity; position = p; solid = c.solid })
              ≡ step c (move d)
          near f = onward (moved-near c d h _ _ inside (sym (ap (position_fits c.mark) place_is) ∙ f) (at later (lit< tt)).told place_is)

pub returns-in_err-check : goal.returns-in_err-check
returns-in_err-check c =
    let e = c.in_err-check.field-0.0 in
    let r : c.from_residual.result ≡ Err e = search rules in
    ap (S.settled c.args.c) r ∙ check-refused c.args.c (move c.args.d) e c.in_err-check.ensures

pub returns-then-state_of-eq2 : goal.returns-then-state_of-eq2
returns-then-state_of-eq2 c = tide-on c.args.c c.args.d c.in_ok-check.ensures (search rules)

pub returns-then-magnitude-gt292200 : goal.returns-then-magnitude-gt292200
returns-then-magnitude-gt292200 c =
    let h : state_of c.args.c.tide ≡ 2 → ⊥ = search rules in
    let l : 292200 < nat_abs c.args.d = search rules in
    long c.args.c c.args.d c.in_ok-check.ensures h l

pub overflow_add-epoch : goal.overflow_add-epoch
overflow_add-epoch c =
    let h : state_of c.args.c.tide ≡ 2 → ⊥ = search rules in
    let s : nat_abs c.args.d ≤ 292200 = search rules in
    fit (later c.args.c c.args.d c.in_ok-check.ensures h s) (lit< tt)

pub returns-then-not-epoch_fits : goal.returns-then-not-epoch_fits
returns-then-not-epoch_fits c =
    let h : state_of c.args.c.tide ≡ 2 → ⊥ = search rules in
    let s : nat_abs c.args.d ≤ 292200 = search rules in
    outside c.args.c c.args.d c.in_ok-check.ensures h s (search rules)

pub scaled-requires-clause-t : goal.scaled-requires-clause-t
scaled-requires-clause-t c = within-sized (widen (small c.args.c c.args.d c.in_ok-check.ensures).velocity (lit≤ tt))

pub plus-position-requires-clause-t : goal.plus-position-requires-clause-t
plus-position-requires-clause-t c = within-sized (widen (small c.args.c c.args.d c.in_ok-check.ensures).position (lit≤ tt))

pub plus-position-requires-clause-t_2 : goal.plus-position-requires-clause-t_2
plus-position-requires-clause-t_2 c =
    let h : state_of c.args.c.tide ≡ 2 → ⊥ = search rules in
    let s : nat_abs c.args.d ≤ 292200 = search rules in
    way-sized c.args.c c.args.d c.in_ok-check.ensures h s c.scaled.result _ c.scaled.ensures refl

pub position_fits-requires : goal.position_fits-requires
position_fits-requires c = within-sized (small c.args.c c.args.d c.in_ok-check.ensures).mark

pub returns-then-not-position_fits : goal.returns-then-not-position_fits
returns-then-not-position_fits c =
    let h : state_of c.args.c.tide ≡ 2 → ⊥ = search rules in
    let s : nat_abs c.args.d ≤ 292200 = search rules in
    far c.args.c c.args.d c.in_ok-check.ensures h s c.scaled.result c.plus-position.result c.scaled.ensures c.plus-position.ensures (search rules) (search rules)

pub returns : goal.returns
returns c =
    let h : state_of c.args.c.tide ≡ 2 → ⊥ = search rules in
    let s : nat_abs c.args.d ≤ 292200 = search rules in
    near c.args.c c.args.d c.in_ok-check.ensures h s c.scaled.result c.plus-position.result c.scaled.ensures c.plus-position.ensures (search rules) (search rules)

-- The tide of a Moon and a Sun is added to a tide-free card, and stored.
use Rattle.std.proofs.Common.{rules, ◌≡◌, sym, ◌∙◌, ap, true, Ok, Err}
use Rattle.std.specs.Prelude.{eqb}
use Rattle.refusal.specs.declared.Refusal.{Refusal}
use Rattle.refusal.specs.declared.Refusal.TheVariants as Is
use Rattle.refusal.specs.Answered.{number_of, answered}
use Rattle.refusal.proofs.AnsweredLaws.{kept, dropped}
use Rattle.mark.specs.declared.Vec3.{Vec3}
use Rattle.mark.specs.Mark.{nowhere, marked, plus}
use Rattle.mark.specs.Ranges.{Within}
use Rattle.tides.specs.declared.Body.{Body}
use Rattle.tides.specs.Tide.{tide_answer}
use Rattle.tides.proofs.TideLaws.{tide-refused}
use Rattle.head.specs.State.{state_of}
use Rattle.card.specs.declared.Card.{Card}
use Rattle.card.specs.declared.Answer.{Answer}
use Rattle.card.specs.Checks.{card_number}
use Rattle.card.specs.Calls.{solid_on, step}
use Rattle.card.specs.Steps as S
use Rattle.card.specs.Steps.{after}
use Rattle.card.proofs.CheckLaws.{number-valid, valid-passed}
use Rattle.card.proofs.StepLaws.{answer, check-refused, check-passed, mark-sized, addable, solid-on-other, solid-on-refused, solid-on-is, tide-small}
use Rattle.card.proofs.calls.solid_added.Goals as goal

module _ (c : Card) (a b : Body) (q : 0 ≡ card_number c) where
  onward : {r : Answer} → r ≡ after c (solid_on a b) → r ≡ step c (solid_on a b)
  onward e = e ∙ check-passed c (solid_on a b) q

  other : (e : Refusal) → S.in_state c 0 ≡ Err e → answer (number_of e) c ≡ step c (solid_on a b)
  other e h =
      let d = dropped (eqb (state_of c.tide) 0) tt Is.TideState e h in
      ap (λ r. answer (number_of r) c) d.1 ∙ onward (solid-on-other c a b d.0)

  accepted : marked c.mark ≡ true
  accepted = (valid-passed c (number-valid c (sym q))).mark

  module _ (i : S.in_state c 0 ≡ Ok tt) where
    free : eqb (state_of c.tide) 0 ≡ true
    free = (kept (eqb (state_of c.tide) 0) tt tt Is.TideState i).0

    refused : (e : Refusal) → answered nowhere (Err e) ≡ tide_answer c.mark a b → answer (number_of e) c ≡ step c (solid_on a b)
    refused e h = onward (solid-on-refused c a b free accepted e (tide-refused c.mark a b e h))

    small : (v : Vec3) → answered nowhere (Ok v) ≡ tide_answer c.mark a b → Within 1461000000 v
    small v h = tide-small c a b free accepted v h

    done : (v p : Vec3) → answered nowhere (Ok v) ≡ tide_answer c.mark a b → p ≡ plus c.position v → S.retided c 2 p v ≡ step c (solid_on a b)
    done v p h e = ap (λ (w : Vec3). S.retided c 2 w v) e ∙ onward (solid-on-is c a b free accepted v h)

pub returns-in_err-check : goal.returns-in_err-check
returns-in_err-check c =
    let e = c.in_err-check.field-0.0 in
    let r : c.from_residual.result ≡ Err e = search rules in
    ap (S.settled c.args.c) r ∙ check-refused c.args.c (solid_on c.args.first c.args.second) e c.in_err-check.ensures

pub returns-in_err-in_state : goal.returns-in_err-in_state
returns-in_err-in_state c =
    let e = c.in_err-in_state.field-0.0 in
    let r : c.from_residual-in_err-in_state.result ≡ Err e = search rules in
    let i : S.in_state c.args.c 0 ≡ Err e = search rules in
    ap (S.settled c.args.c) r ∙ other c.args.c c.args.first c.args.second c.in_ok-check.ensures e i

pub returns-in_err-v : goal.returns-in_err-v
returns-in_err-v c =
    let e = c.in_err-v.field-0.0 in
    let r : c.from_residual-in_err-v.result ≡ Err e = search rules in
    let i : S.in_state c.args.c 0 ≡ Ok tt = search rules in
    ap (S.settled c.args.c) r ∙ refused c.args.c c.args.first c.args.second c.in_ok-check.ensures i e c.in_err-v.ensures

pub plus-requires-clause-t : goal.plus-requires-clause-t
plus-requires-clause-t c =
    let i : S.in_state c.args.c 0 ≡ Ok tt = search rules in
    (addable c.args.c (number-valid c.args.c (sym c.in_ok-check.ensures)) (small c.args.c c.args.first c.args.second c.in_ok-check.ensures i c.in_ok-v.v c.in_ok-v.ensures)).0

pub plus-requires-clause-t_2 : goal.plus-requires-clause-t_2
plus-requires-clause-t_2 c =
    let i : S.in_state c.args.c 0 ≡ Ok tt = search rules in
    (addable c.args.c (number-valid c.args.c (sym c.in_ok-check.ensures)) (small c.args.c c.args.first c.args.second c.in_ok-check.ensures i c.in_ok-v.v c.in_ok-v.ensures)).1

pub retided-requires : goal.retided-requires
retided-requires c = mark-sized c.args.c (number-valid c.args.c (sym c.in_ok-check.ensures))

pub returns : goal.returns
returns c =
    let i : S.in_state c.args.c 0 ≡ Ok tt = search rules in
    c.retided.ensures ∙ done c.args.c c.args.first c.args.second c.in_ok-check.ensures i c.in_ok-v.v c.plus.result c.in_ok-v.ensures c.plus.ensures

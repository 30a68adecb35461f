-- The stored vector is taken away.
use Rattle.std.proofs.Common.{rules, ◌≡◌, sym, ◌∙◌, ap, Ok, Err}
use Rattle.std.specs.Prelude.{eqb}
use Rattle.refusal.specs.declared.Refusal.{Refusal}
use Rattle.refusal.specs.declared.Refusal.TheVariants as Is
use Rattle.refusal.specs.Answered.{number_of}
use Rattle.refusal.proofs.AnsweredLaws.{kept, dropped}
use Rattle.head.specs.State.{state_of}
use Rattle.card.specs.declared.Card.{Card}
use Rattle.card.specs.declared.Answer.{Answer}
use Rattle.card.specs.Checks.{card_number}
use Rattle.card.specs.Calls.{solid_off, step}
use Rattle.card.specs.Steps as S
use Rattle.card.specs.Steps.{after}
use Rattle.card.proofs.CheckLaws.{number-valid, valid-small}
use Rattle.card.proofs.StepLaws.{answer, check-refused, check-passed, mark-sized, addable, solid-off-is, solid-off-other}
use Rattle.card.proofs.calls.solid_taken.Goals as goal

module _ (c : Card) (q : 0 ≡ card_number c) where
  onward : {a : Answer} → a ≡ after c solid_off → a ≡ step c solid_off
  onward e = e ∙ check-passed c solid_off q

  other : (e : Refusal) → S.in_state c 2 ≡ Err e → answer (number_of e) c ≡ step c solid_off
  other e h =
      let d = dropped (eqb (state_of c.tide) 2) tt Is.TideState e h in
      ap (λ r. answer (number_of r) c) d.1 ∙ onward (solid-off-other c d.0)

pub returns-in_err-check : goal.returns-in_err-check
returns-in_err-check c =
    let e = c.in_err-check.field-0.0 in
    let r : c.from_residual.result ≡ Err e = search rules in
    ap (S.settled c.args.c) r ∙ check-refused c.args.c solid_off e c.in_err-check.ensures

pub returns-in_err-in_state : goal.returns-in_err-in_state
returns-in_err-in_state c =
    let e = c.in_err-in_state.field-0.0 in
    let r : c.from_residual-in_err-in_state.result ≡ Err e = search rules in
    let i : S.in_state c.args.c 2 ≡ Err e = search rules in
    ap (S.settled c.args.c) r ∙ other c.args.c c.in_ok-check.ensures e i

pub minus-requires-clause-t : goal.minus-requires-clause-t
minus-requires-clause-t c = let v = number-valid c.args.c (sym c.in_ok-check.ensures) in (addable c.args.c v (valid-small c.args.c v).solid).0

pub minus-requires-clause-t_2 : goal.minus-requires-clause-t_2
minus-requires-clause-t_2 c = let v = number-valid c.args.c (sym c.in_ok-check.ensures) in (addable c.args.c v (valid-small c.args.c v).solid).1

pub retided-requires : goal.retided-requires
retided-requires c = mark-sized c.args.c (number-valid c.args.c (sym c.in_ok-check.ensures))

pub returns : goal.returns
returns c =
    let i : S.in_state c.args.c 2 ≡ Ok tt = search rules in
    c.retided.ensures ∙ onward c.args.c c.in_ok-check.ensures (solid-off-is c.args.c c.minus.result c.minus.ensures (kept (eqb (state_of c.args.c.tide) 2) tt tt Is.TideState i).0)

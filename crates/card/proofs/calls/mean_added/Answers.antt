-- The permanent shift is added to a tide-free card.
use Rattle.std.proofs.Common.{rules, ◌≡◌, sym, ◌∙◌, ap, true, Ok, Err}
use Rattle.std.specs.Prelude.{eqb}
use Rattle.refusal.specs.declared.Refusal.{Refusal}
use Rattle.refusal.specs.declared.Refusal.TheVariants as Is
use Rattle.refusal.specs.Answered.{number_of, answered}
use Rattle.refusal.proofs.AnsweredLaws.{kept, dropped}
use Rattle.mark.specs.declared.Vec3.{Vec3}
use Rattle.mark.specs.Mark.{nowhere, marked, plus}
use Rattle.tides.specs.Permanent.{permanent, permanent_answer}
use Rattle.tides.proofs.PermanentLaws.{shift_is, shift-never}
use Rattle.head.specs.State.{state_of}
use Rattle.card.specs.declared.Card.{Card}
use Rattle.card.specs.declared.Answer.{Answer}
use Rattle.card.specs.Checks.{card_number}
use Rattle.card.specs.Calls.{mean_on, step}
use Rattle.card.specs.Steps as S
use Rattle.card.specs.Steps.{after}
use Rattle.card.proofs.CheckLaws.{number-valid, valid-passed}
use Rattle.card.proofs.StepLaws.{answer, check-refused, check-passed, mark-sized, mean-addable, mean-on-is, mean-on-other}
use Rattle.card.proofs.calls.mean_added.Goals as goal

module _ (c : Card) (q : 0 ≡ card_number c) where
  onward : {a : Answer} → a ≡ after c mean_on → a ≡ step c mean_on
  onward e = e ∙ check-passed c mean_on q

  other : (e : Refusal) → S.in_state c 0 ≡ Err e → answer (number_of e) c ≡ step c mean_on
  other e h =
      let d = dropped (eqb (state_of c.tide) 0) tt Is.TideState e h in
      ap (λ r. answer (number_of r) c) d.1 ∙ onward (mean-on-other c d.0)

  accepted : marked c.mark ≡ true
  accepted = (valid-passed c (number-valid c (sym q))).mark

  shift : (v : Vec3) → answered nowhere (Ok v) ≡ permanent_answer c.mark → v ≡ permanent c.mark
  shift v h = shift_is c.mark (answered nowhere (Ok v)) accepted h

  done : (v p : Vec3) → answered nowhere (Ok v) ≡ permanent_answer c.mark → p ≡ plus c.position v → S.in_state c 0 ≡ Ok tt
      → S.retided c 1 p c.solid ≡ step c mean_on
  done v p h e i = onward (mean-on-is c p (e ∙ ap (plus c.position) (shift v h)) (kept (eqb (state_of c.tide) 0) tt tt Is.TideState i).0)

pub returns-in_err-check : goal.returns-in_err-check
returns-in_err-check c =
    let e = c.in_err-check.field-0.0 in
    let r : c.from_residual.result ≡ Err e = search rules in
    ap (S.settled c.args.c) r ∙ check-refused c.args.c mean_on e c.in_err-check.ensures

pub returns-in_err-in_state : goal.returns-in_err-in_state
returns-in_err-in_state c =
    let e = c.in_err-in_state.field-0.0 in
    let r : c.from_residual-in_err-in_state.result ≡ Err e = search rules in
    let i : S.in_state c.args.c 0 ≡ Err e = search rules in
    ap (S.settled c.args.c) r ∙ other c.args.c c.in_ok-check.ensures e i

pub returns-in_err-shift : goal.returns-in_err-shift
returns-in_err-shift c = absurd (shift-never c.args.c.mark c.in_err-shift.field-0.0 (accepted c.args.c c.in_ok-check.ensures) c.in_err-shift.ensures)

pub plus-requires-clause-t : goal.plus-requires-clause-t
plus-requires-clause-t c =
    (mean-addable c.args.c (number-valid c.args.c (sym c.in_ok-check.ensures)) (shift c.args.c c.in_ok-check.ensures c.in_ok-shift.shift c.in_ok-shift.ensures)).0

pub plus-requires-clause-t_2 : goal.plus-requires-clause-t_2
plus-requires-clause-t_2 c =
    (mean-addable c.args.c (number-valid c.args.c (sym c.in_ok-check.ensures)) (shift c.args.c c.in_ok-check.ensures c.in_ok-shift.shift c.in_ok-shift.ensures)).1

pub retided-requires : goal.retided-requires
retided-requires c = mark-sized c.args.c (number-valid c.args.c (sym c.in_ok-check.ensures))

pub returns : goal.returns
returns c =
    let i : S.in_state c.args.c 0 ≡ Ok tt = search rules in
    c.retided.ensures ∙ done c.args.c c.in_ok-check.ensures c.in_ok-shift.shift c.plus.result c.in_ok-shift.ensures c.plus.ensures i

-- The permanent shift is taken from a mean-tide card.
use Rattle.std.proofs.Common.{rules, ◌≡◌, sym, ◌∙◌, ap, true, Ok, Err}
use Rattle.std.specs.Prelude.{eqb}
use Rattle.refusal.specs.declared.Refusal.{Refusal}
use Rattle.refusal.specs.declared.Refusal.TheVariants as Is
use Rattle.refusal.specs.Answered.{number_of, answered}
use Rattle.refusal.proofs.AnsweredLaws.{kept, dropped}
use Rattle.mark.specs.declared.Vec3.{Vec3}
use Rattle.mark.specs.Mark.{nowhere, marked, minus}
use Rattle.tides.specs.Permanent.{permanent, permanent_answer}
use Rattle.tides.proofs.PermanentLaws.{shift_is, shift-never}
use Rattle.head.specs.State.{state_of}
use Rattle.card.specs.declared.Card.{Card}
use Rattle.card.specs.declared.Answer.{Answer}
use Rattle.card.specs.Checks.{card_number}
use Rattle.card.specs.Calls.{mean_off, step}
use Rattle.card.specs.Steps as S
use Rattle.card.specs.Steps.{after}
use Rattle.card.proofs.CheckLaws.{number-valid, valid-passed}
use Rattle.card.proofs.StepLaws.{answer, check-refused, check-passed, mark-sized, mean-addable, mean-off-is, mean-off-other}
use Rattle.card.proofs.calls.mean_taken.Goals as goal

module _ (c : Card) (q : 0 ≡ card_number c) where
  onward : {a : Answer} → a ≡ after c mean_off → a ≡ step c mean_off
  onward e = e ∙ check-passed c mean_off q

  other : (e : Refusal) → S.in_state c 1 ≡ Err e → answer (number_of e) c ≡ step c mean_off
  other e h =
      let d = dropped (eqb (state_of c.tide) 1) tt Is.TideState e h in
      ap (λ r. answer (number_of r) c) d.1 ∙ onward (mean-off-other c d.0)

  accepted : marked c.mark ≡ true
  accepted = (valid-passed c (number-valid c (sym q))).mark

  shift : (v : Vec3) → answered nowhere (Ok v) ≡ permanent_answer c.mark → v ≡ permanent c.mark
  shift v h = shift_is c.mark (answered nowhere (Ok v)) accepted h

  done : (v p : Vec3) → answered nowhere (Ok v) ≡ permanent_answer c.mark → p ≡ minus c.position v → S.in_state c 1 ≡ Ok tt
      → S.retided c 0 p c.solid ≡ step c mean_off
  done v p h e i = onward (mean-off-is c p (e ∙ ap (minus c.position) (shift v h)) (kept (eqb (state_of c.tide) 1) tt tt Is.TideState i).0)

pub returns-in_err-check : goal.returns-in_err-check
returns-in_err-check c =
    let e = c.in_err-check.field-0.0 in
    let r : c.from_residual.result ≡ Err e = search rules in
    ap (S.settled c.args.c) r ∙ check-refused c.args.c mean_off e c.in_err-check.ensures

pub returns-in_err-in_state : goal.returns-in_err-in_state
returns-in_err-in_state c =
    let e = c.in_err-in_state.field-0.0 in
    let r : c.from_residual-in_err-in_state.result ≡ Err e = search rules in
    let i : S.in_state c.args.c 1 ≡ Err e = search rules in
    ap (S.settled c.args.c) r ∙ other c.args.c c.in_ok-check.ensures e i

pub returns-in_err-shift : goal.returns-in_err-shift
returns-in_err-shift c = absurd (shift-never c.args.c.mark c.in_err-shift.field-0.0 (accepted c.args.c c.in_ok-check.ensures) c.in_err-shift.ensures)

pub minus-requires-clause-t : goal.minus-requires-clause-t
minus-requires-clause-t c =
    (mean-addable c.args.c (number-valid c.args.c (sym c.in_ok-check.ensures)) (shift c.args.c c.in_ok-check.ensures c.in_ok-shift.shift c.in_ok-shift.ensures)).0

pub minus-requires-clause-t_2 : goal.minus-requires-clause-t_2
minus-requires-clause-t_2 c =
    (mean-addable c.args.c (number-valid c.args.c (sym c.in_ok-check.ensures)) (shift c.args.c c.in_ok-check.ensures c.in_ok-shift.shift c.in_ok-shift.ensures)).1

pub retided-requires : goal.retided-requires
retided-requires c = mark-sized c.args.c (number-valid c.args.c (sym c.in_ok-check.ensures))

pub returns : goal.returns
returns c =
    let i : S.in_state c.args.c 1 ≡ Ok tt = search rules in
    c.retided.ensures ∙ done c.args.c c.in_ok-check.ensures c.in_ok-shift.shift c.minus.result c.in_ok-shift.ensures c.minus.ensures i

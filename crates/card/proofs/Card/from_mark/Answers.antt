-- The card's number where it is refused, else the grains.
use Rattle.std.proofs.Common.{rules, ◌≡◌, sym, ◌∙◌, ap, lit≤, Err}
use borrow.Author.Tests.{ne_eqb}
use Rattle.refusal.specs.Answered.{number_of, answered}
use Rattle.refusal.specs.declared.Refusal.{Refusal}
use Rattle.refusal.proofs.AnsweredLaws.{some}
use Rattle.mark.specs.Mark.{nowhere}
use Rattle.mark.proofs.LengthLaws.{widen}
use Rattle.mark.proofs.SizeLaws.{within-sized}
use Rattle.card.specs.declared.Card.{Card}
use Rattle.card.specs.Checks.{card_number, offset_answer}
use Rattle.card.proofs.CheckLaws.{valid-small, number-valid}
use Rattle.card.proofs.Card.from_mark.Goals as goal

refused : (c : Card) (e : Refusal) → number_of e ≡ card_number c → answered nowhere (Err e) ≡ offset_answer c
unfolding offset_answer
refused c e q = rw (← q, ne_eqb (number_of e) 0 (some e))

pub returns-in_err-check : goal.returns-in_err-check
returns-in_err-check c =
    let e = c.in_err-check.field-0.0 in
    let r : c.from_residual.result ≡ Err e = search rules in
    ap (answered nowhere) r ∙ refused c.args.self e c.in_err-check.ensures

pub from_mark-requires-clause-t : goal.from_mark-requires-clause-t
from_mark-requires-clause-t c = within-sized (valid-small c.args.self (number-valid c.args.self (sym c.in_ok-check.ensures))).mark

pub from_mark-requires-clause-t_2 : goal.from_mark-requires-clause-t_2
from_mark-requires-clause-t_2 c = within-sized (widen (valid-small c.args.self (number-valid c.args.self (sym c.in_ok-check.ensures))).position (lit≤ tt))

pub returns : goal.returns
unfolding offset_answer
returns c = let h = sym c.in_ok-check.ensures in rw (h, c.from_mark.ensures)

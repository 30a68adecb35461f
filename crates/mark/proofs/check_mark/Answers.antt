-- A mark is accepted where its squares are in range.
use Rattle.std.proofs.Common.{rules, ◌≡◌, sym, ◌∙◌, ap, Err, Some, None}
use Rattle.refusal.specs.declared.Refusal.TheVariants as Is
use Rattle.refusal.specs.Answered as A
use Rattle.mark.proofs.MarkLaws.{squares-unmarked, squares-accepted, number-marked, number-unmarked}
use Rattle.mark.proofs.check_mark.Goals as goal

pub returns-in_err-ok_or : goal.returns-in_err-ok_or
returns-in_err-ok_or c =
    let e : c.from_residual.result ≡ Err Is.Mark = search rules in
    let n : c.sum_within.result ≡ None = search rules in
    ap A.number e ∙ sym (number-unmarked c.args.m (squares-unmarked c.args.m (sym c.sum_within.ensures ∙ n)))

pub returns : goal.returns
returns c =
    let s : c.sum_within.result ≡ Some c.in_ok-ok_or.field-0 = search rules in
    sym (number-marked c.args.m (squares-accepted c.args.m c.in_ok-ok_or.field-0 (sym c.sum_within.ensures ∙ s)))

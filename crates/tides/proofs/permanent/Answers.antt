-- The mark's direction, then the steps.
use Rattle.std.proofs.Common.{rules, ◌≡◌, ap, ◌∙◌, Err}
use Rattle.mark.specs.Mark.{nowhere}
use Rattle.mark.proofs.MarkLaws.{number-marked}
use Rattle.refusal.specs.Answered.{answered}
use Rattle.tides.specs.Permanent.{permanent, permanent_answer}
use Rattle.tides.proofs.AimLaws.{aim-marked, aim-unmarked, aim-number, aim-is, aim-direction}
use Rattle.tides.proofs.permanent.Goals as goal

pub returns-in_err-u : goal.returns-in_err-u
unfolding permanent_answer
returns-in_err-u c =
    let m = c.args.m in
    let r = c.in_err-u.field-0.0 in
    let e : c.from_residual.result ≡ Err r = search rules in
    ap (answered nowhere) e ∙ rw (aim-number m r c.in_err-u.ensures, aim-unmarked m r c.in_err-u.ensures)

pub invariant_of-permanent_of : goal.invariant_of-permanent_of
invariant_of-permanent_of c = record { short = aim-direction c.args.m c.in_ok-u.u c.in_ok-u.ensures }

pub returns : goal.returns
unfolding permanent_answer permanent
returns c =
    let m = c.args.m in
    let k = aim-marked m c.in_ok-u.u c.in_ok-u.ensures in
    rw (number-marked m k, k, c.permanent_of.ensures, aim-is m c.in_ok-u.u c.in_ok-u.ensures)

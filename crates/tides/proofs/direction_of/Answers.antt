-- The mark's length, then its unit vector; the mark's refusal where there is none.
use Rattle.std.proofs.Common.{rules, ◌≡◌, ap, ◌∙◌, Err}
use Rattle.mark.specs.Mark.{nowhere}
use Rattle.refusal.specs.Answered.{answered}
use Rattle.tides.proofs.PermanentLaws.{accepted-wide}
use Rattle.tides.proofs.AimLaws.{no-length, length-marked, aimed}
use Rattle.tides.proofs.direction_of.Goals as goal

pub returns-in_err-l : goal.returns-in_err-l
returns-in_err-l c =
    let e : c.from_residual.result ≡ Err c.in_err-l.field-0.0 = search rules in
    ap (answered nowhere) e ∙ no-length c.args.m c.in_err-l.field-0.0 c.in_err-l.ensures

pub units-requires : goal.units-requires
units-requires c = accepted-wide c.args.m (length-marked c.args.m c.in_ok-l.l c.in_ok-l.ensures)

pub returns : goal.returns
returns c = aimed c.args.m c.in_ok-l.l c.units.result c.in_ok-l.ensures c.units.ensures

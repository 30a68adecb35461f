-- The text of what was read.
use Rattle.std.proofs.Common.{◌∙◌, ap, length}
use Rattle.octets.specs.Octets.{splice}
use Rattle.listing.proofs.LineLaws.{line_refused, line_taken}
use Rattle.listing.proofs.line.Goals as goal

pub returns-in-Ok-clause-value : goal.returns-in-Ok-clause-value
returns-in-Ok-clause-value c = c.put_card.ensures.value ∙ ap length (line_taken c.args.s.now c.in-Ok.card c.in-Ok.ensures)

pub returns-in-Ok-clause-out_after : goal.returns-in-Ok-clause-out_after
returns-in-Ok-clause-out_after c = c.put_card.ensures.out_after ∙ ap (splice c.args.out.now 0) (line_taken c.args.s.now c.in-Ok.card c.in-Ok.ensures)

pub returns-in-Err-clause-value : goal.returns-in-Err-clause-value
returns-in-Err-clause-value c =
    c.put_refused.ensures.value ∙ ap length (line_refused c.args.s.now c.in-Err.refusal c.number.result c.in-Err.ensures c.number.ensures)

pub returns-in-Err-clause-out_after : goal.returns-in-Err-clause-out_after
returns-in-Err-clause-out_after c =
    c.put_refused.ensures.out_after ∙ ap (splice c.args.out.now 0) (line_refused c.args.s.now c.in-Err.refusal c.number.result c.in-Err.ensures c.number.ensures)

-- At the start nothing is written; a part's line fits, and is written after those before it; at the end nothing is left of the listing.
use Rattle.std.proofs.Common.{◌∙◌, ap, arith, length, rules}
use Rattle.octets.specs.Octets.{splice}
use Rattle.listing.proofs.LineLaws.{line-most}
use Rattle.list.proofs.FillLaws.{Cut, begun, wrote, next, ended}
use Rattle.list.proofs.fill.Goals as goal

pub loop-part-init : goal.loop-part-init
loop-part-init c = begun (search rules) (search rules) c.requires.parts_len_bound

pub overflow_add-filled : goal.overflow_add-filled
overflow_add-filled c =
    let short = line-most c.in-Some.part.now in
    let steps = c.in-Some.ensures.steps in
    let some = steps.1.2 in
    omega (arith, short, c.loop-part.invariant.room)

pub loop-part-preserved : goal.loop-part-preserved
loop-part-preserved c =
    let steps = c.in-Some.ensures.steps in
    let cut : Cut c.loop-part.part-iterator.rest.now c.in-Some.part.now c.next.new.self.rest.now c.loop-part.part-iterator.size = record {
      whole = steps.1.0;
      long = steps.1.1;
      some = steps.1.2;
    } in
    next c.loop-part.invariant cut steps.0
    (wrote c.requires.in_bounds c.loop-part.invariant cut c.line-filled.ensures.value c.line-filled.ensures.out_after)

pub returns-clause-value : goal.returns-clause-value
returns-clause-value c = c.loop-part.invariant.count ∙ ap length (ended c.in-None.ensures.steps.1.0 c.loop-part.invariant)

pub returns-clause-text_after : goal.returns-clause-text_after
returns-clause-text_after c = c.loop-part.invariant.holds ∙ ap (splice c.args.text.now 0) (ended c.in-None.ensures.steps.1.0 c.loop-part.invariant)

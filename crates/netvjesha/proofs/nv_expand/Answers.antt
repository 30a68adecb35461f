-- The field record's card, put into the output.
use Rattle.std.proofs.Common.{◌∙◌}
use Rattle.netvjesha.proofs.FaceLaws.{expand-called}
use Rattle.netvjesha.proofs.nv_expand.Goals as goal

pub returns-clause-value : goal.returns-clause-value
returns-clause-value c =
    (expand-called c.args.edition.now c.args.out.now c.into.result c.put.result c.put.new.out (c.into.ensures ∙ c.expand.ensures) (c.put.ensures.value, c.put.ensures.out_after)).0

pub returns-clause-out_after : goal.returns-clause-out_after
returns-clause-out_after c =
    (expand-called c.args.edition.now c.args.out.now c.into.result c.put.result c.put.new.out (c.into.ensures ∙ c.expand.ensures) (c.put.ensures.value, c.put.ensures.out_after)).1

-- The place that the step leaves.
use Rattle.std.proofs.Common.{◌∙◌, ap}
use Rattle.catalogue.proofs.ReaderLaws.{next-place}
use Rattle.catalogue.proofs.next.Goals as goal

pub returns-clause-at_after : goal.returns-clause-at_after
returns-clause-at_after c = next-place c.take_at-taken.result ∙ ap (λ t. t.next) c.take_at-taken.ensures

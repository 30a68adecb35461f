-- A component at a time.
use Rattle.std.proofs.Common.{rules}
use Rattle.mark.specs.Mark.{plus}
use Rattle.tides.proofs.solid.sum.Goals as goal

pub returns : goal.returns
unfolding plus
returns c = search rules

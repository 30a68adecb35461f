-- Three numbers of a size, a component at a time.
use Rattle.std.proofs.Common.{rules}
use Rattle.mark.specs.Mark.{sized}
use Rattle.mark.proofs.sized.Goals as goal

pub returns-then-magnitude-n-2 : goal.returns-then-magnitude-n-2
unfolding sized
returns-then-magnitude-n-2 c = search rules

pub returns-else-magnitude-n-2 : goal.returns-else-magnitude-n-2
unfolding sized
returns-else-magnitude-n-2 c = search rules

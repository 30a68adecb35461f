-- The product fits, so that it is the numbers'.
use Rattle.std.proofs.Common.{rules}
use Rattle.tides.specs.Direction.{times}
use Rattle.tides.proofs.direction.times.Goals as goal

pub returns : goal.returns
unfolding times
returns c = search rules

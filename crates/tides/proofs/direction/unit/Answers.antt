-- The product fits, so that it is the numbers'.
use Rattle.std.proofs.Common.{rules}
use Rattle.tides.specs.Direction.{unit}
use Rattle.tides.proofs.direction.unit.Goals as goal

pub returns : goal.returns
unfolding unit
returns c = search rules

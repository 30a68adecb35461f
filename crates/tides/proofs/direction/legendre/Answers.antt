-- Each term fits, so that it is the numbers'.
use Rattle.std.proofs.Common.{rules}
use Rattle.tides.specs.Direction.{legendre}
use Rattle.tides.proofs.direction.legendre.Goals as goal

pub returns : goal.returns
unfolding legendre
returns c = search rules

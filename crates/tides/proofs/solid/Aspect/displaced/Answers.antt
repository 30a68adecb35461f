-- A component at a time.
use Rattle.std.proofs.Common.{rules}
use Rattle.tides.specs.Tide.{displaced}
use Rattle.tides.proofs.solid.Aspect.displaced.Goals as goal

pub returns : goal.returns
unfolding displaced
returns c = search rules

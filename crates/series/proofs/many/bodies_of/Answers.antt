-- Six doubles as two vectors.
use Rattle.std.proofs.Common.{refl}
use Rattle.series.specs.Series.{body_at}
use Rattle.series.proofs.many.bodies_of.Goals as goal

pub returns : goal.returns
unfolding body_at
returns c = refl

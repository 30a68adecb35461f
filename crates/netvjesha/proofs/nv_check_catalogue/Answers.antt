-- What `catalogue::check` answers, packed.
use Rattle.std.proofs.Common.{◌∙◌, ap}
use Rattle.netvjesha.specs.Face.{packed_rows, checked_catalogue}
use Rattle.netvjesha.proofs.nv_check_catalogue.Goals as goal

pub returns : goal.returns
unfolding checked_catalogue
returns c = c.packed.ensures ∙ ap packed_rows c.check.ensures

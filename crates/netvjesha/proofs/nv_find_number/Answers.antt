-- The number of the lookup's answer.
use Rattle.std.proofs.Common.{◌∙◌, ap, length}
use Rattle.catalogue.specs.Lookup.{found}
use Rattle.refusal.proofs.AnsweredLaws.{number-answered}
use Rattle.netvjesha.proofs.nv_find_number.Goals as goal

pub returns : goal.returns
unfolding found
returns c = c.number_of.ensures ∙ number-answered (length c.args.records.now) c.find_place.result ∙ ap (λ x. x.number) c.find_place.ensures

-- `netvjesha::nv_solid_on` meets its contract: the tide of two labelled bodies on the card's bytes. Assumes nothing.
use mathlib.Core.Path.{ap₂, ◌∙◌}
use borrow.Author.Rules.{rules}
use Rattle.card.specs.Calls.{solid_on}
use Rattle.records.proofs.BytesLaws.{same-call}
use Rattle.netvjesha.proofs.FaceLaws.{solid-labelled}
use Rattle.netvjesha.proofs.nv_solid_on.Statement.{statement}
use Rattle.netvjesha.proofs.nv_solid_on.Tie as tie

pub nv_solid_on_spec : {M : Type 1} → statement M
nv_solid_on_spec =
    tie.close
    (tie.spec (λ c κs. search rules) (λ c κs. search rules) (λ c κs. search rules) (λ c. search rules)
    (λ c. same-call _ _ _ _ _ _ (ap₂ solid_on c.labelled-first.ensures c.labelled-second.ensures ∙ solid-labelled _ _ _ _) c.solid_on.ensures))

-- What is left of the cards has the whole answer.
use Rattle.std.proofs.Common.{◌≡◌, ◌-◌, length}
use Rattle.refusal.specs.FirstBad.{first_bad}
use Rattle.catalogue.specs.Whole.{number_at}
use Rattle.catalogue.proofs.check.Given as goal

abbrev pub invariant-loop-place : goal.invariant-loop-place
invariant-loop-place l = first_bad (number_at l.catalogue) l.place (length l.cards - l.place) ≡ first_bad (number_at l.catalogue) 0 (length l.cards)

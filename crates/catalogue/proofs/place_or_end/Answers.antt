-- The place, or the catalogue's length where the lookup is refused.
use Rattle.std.proofs.Common.{◌≡◌, refl, ◌∙◌, ap, ℕ, length, Result, Ok, Err}
use Rattle.std.specs.Result.{result_unwrap_or}
use Rattle.refusal.specs.declared.Refusal.{Refusal}
use Rattle.refusal.specs.Answered.{answered}
use Rattle.catalogue.specs.Lookup.{found}
use Rattle.catalogue.proofs.place_or_end.Goals as goal

value : (z : ℕ) (r : Result ℕ Refusal) → result_unwrap_or r z ≡ (answered z r).value
value z (Ok n) = refl
value z (Err e) = refl

pub returns : goal.returns
unfolding found
returns c = c.unwrap_or.ensures ∙ value (length c.args.catalogue.now) c.find_place.result ∙ ap (λ x. x.value) c.find_place.ensures

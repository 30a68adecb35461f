-- The move, by the number that was handed in.
use Rattle.std.proofs.Common.{◌∙◌, ap}
use mir.Facts.{to_z-of_z}
use Rattle.card.specs.Calls.{move, step}
use Rattle.card.proofs.Card.move_by.Goals as goal

pub returns : goal.returns
returns c = c.settled.ensures ∙ c.moved.ensures ∙ ap (λ d. step c.args.self (move d)) (to_z-of_z c.ranges.d)

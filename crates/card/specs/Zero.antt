-- The card of all zeros, which comes with a refused read.
use Rattle.std.specs.Prelude.{ℕ, Result, Ok, Err, replicate, pos}
use Rattle.refusal.specs.declared.Refusal.{Refusal}
use Rattle.refusal.specs.Answered.{number_of}
use Rattle.mark.specs.Mark.{nowhere}
use Rattle.card.specs.declared.Card.{Card}
use Rattle.card.specs.declared.Answer.{Answer}

-- the card of all zeros
unfoldable pub zero_card : Card
zero_card = record { site = replicate 9 0; frame = 0; tide = 0; epoch = pos 0; mark = nowhere; velocity = nowhere; position = nowhere; solid = nowhere }

-- a refused read
abbrev pub refused_with : ℕ → Answer
refused_with n = record { number = n; card = zero_card }

-- a read, as the paper answers it
abbrev pub answer_of : Result Card Refusal → Answer
answer_of (Ok c) = record { number = 0; card = c }
answer_of (Err e) = refused_with (number_of e)

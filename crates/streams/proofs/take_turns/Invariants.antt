-- The turns took some bytes of the input.
use Rattle.streams.specs.Left.{TookSome}
use Rattle.streams.proofs.take_turns.Given as goal

abbrev pub invariant-loop : goal.invariant-loop
invariant-loop g l = TookSome (g.R.Read.remaining l.fn.input) (g.R.Read.remaining l.input)

use Rattle.numbers.proofs.RootPairs.{Pairs}
use Rattle.numbers.proofs.root.Given as goal

-- the bits found are the root's
abbrev pub invariant-loop-bit : goal.invariant-loop-bit
invariant-loop-bit l = Pairs l.n l.bit l.rest l.found

abbrev pub decreases-loop-bit : goal.decreases-loop-bit
decreases-loop-bit l = l.bit

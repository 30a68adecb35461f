-- The lines of the parts passed stand in the text, and the iterator has the parts that are left.
use Rattle.list.proofs.FillLaws.{Filled}
use Rattle.list.proofs.fill.Given as goal

abbrev pub invariant-loop-part : goal.invariant-loop-part
invariant-loop-part l = Filled l.parts l.initial.text l.text l.filled l.part-iterator.size l.part-iterator.rest.now

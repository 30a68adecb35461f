-- The bytes that a turn took come after those that the turns before it took.
use Rattle.streams.proofs.LeftLaws.{took_more}
use Rattle.streams.proofs.take_turns.Goals as goal

pub returns-in_err-take : goal.returns-in_err-take
returns-in_err-take g c = took_more _ _ _ c.loop.invariant c.take.ensures

pub loop-preserved : goal.loop-preserved
loop-preserved g c = took_more _ _ _ c.loop.invariant c.take.ensures

pub returns-then-not-branch : goal.returns-then-not-branch
returns-then-not-branch g c = took_more _ _ _ c.loop.invariant c.take.ensures

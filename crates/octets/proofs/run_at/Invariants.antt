use Rattle.std.proofs.Common.{◌≡◌, ◌+◌}
use Rattle.octets.specs.Octets.{unsigned_at}
use Rattle.octets.proofs.run_at.Given as goal

-- the value so far is the reading of i bytes
abbrev pub invariant-loop-i : goal.invariant-loop-i
invariant-loop-i l = l.value ≡ unsigned_at l.s (l.at + l.skip) l.i

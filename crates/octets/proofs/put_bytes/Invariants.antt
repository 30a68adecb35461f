use Rattle.std.proofs.Common.{◌≡◌, ◌+◌, drop}
use Rattle.octets.specs.Octets.{splice}
use Rattle.octets.proofs.put_bytes.Given as goal

-- putting what is left of the run at its place gives what the whole run gives
abbrev pub invariant-loop-i : goal.invariant-loop-i
invariant-loop-i l = splice l.out (l.at + l.i) (drop l.i l.from) ≡ splice l.fn.out l.at l.from

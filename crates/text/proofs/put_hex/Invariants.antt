use Rattle.std.proofs.Common.{◌≡◌, ◌+◌, ◌*◌, drop}
use Rattle.octets.specs.Octets.{splice}
use Rattle.text.specs.Text.{hex_of}
use Rattle.text.proofs.put_hex.Given as goal

-- putting what is left of the run at its place gives what the whole run gives
abbrev pub invariant-loop-i : goal.invariant-loop-i
invariant-loop-i l = splice l.out (l.at + 2 * l.i) (hex_of (drop l.i l.s)) ≡ splice l.fn.out l.at (hex_of l.s)

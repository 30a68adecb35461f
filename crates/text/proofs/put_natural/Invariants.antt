use Rattle.std.proofs.Common.{◌≡◌}
use Rattle.octets.specs.Octets.{splice}
use Rattle.text.specs.Text.{digits, natural}
use Rattle.text.proofs.put_natural.Given as goal

-- putting the digits that are left gives what all of them give
abbrev pub invariant-loop-i : goal.invariant-loop-i
invariant-loop-i l = splice l.out l.at (digits l.i l.rest) ≡ splice l.fn.out l.at (natural l.n)

-- What is written is the shifts of the rows so far.
use Rattle.std.proofs.Common.{◌≡◌, ◌*◌, take}
use Rattle.series.specs.Steps.{shifts_of}
use Rattle.series.proofs.many.fill.Given as goal

abbrev pub invariant-loop-i : goal.invariant-loop-i
invariant-loop-i l = take (3 * l.i) l.out ≡ shifts_of l.u (take l.i l.rows)

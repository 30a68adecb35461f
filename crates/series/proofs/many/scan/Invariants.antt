-- What is left of the rows: its scan is the whole's.
use Rattle.std.proofs.Common.{◌≡◌, ◌-◌, length}
use Rattle.refusal.specs.FirstBad.{first_bad}
use Rattle.series.specs.Steps.{number_at, scan_of}
use Rattle.series.proofs.many.scan.Given as goal

abbrev pub invariant-loop-place : goal.invariant-loop-place
invariant-loop-place l = first_bad (number_at l.rows) l.place (length l.rows - l.place) ≡ scan_of l.rows

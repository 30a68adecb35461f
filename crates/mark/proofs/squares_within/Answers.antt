-- A range that is asked for is below 2^30 at both ends.
use Rattle.std.proofs.Common.{sym, ◌∙◌}
use native.Mathlib.Omega.{arith}
use Rattle.mark.proofs.LengthLaws.{no-range, asked}
use Rattle.mark.proofs.squares_within.Goals as goal

pub returns-then-high-low : goal.returns-then-high-low
returns-then-high-low c =
    let a = c.args in
    sym (asked a.low a.high a.v (omega arith) ∙ no-range a.low a.high a.v (omega arith))

-- The move, by the number that was handed in.
use Rattle.std.proofs.Common.{rules, ◌≡◌}
use mir.Facts.{to_z-of_z}
use mir.Val.{to_z, of_z}
use mir.Syntax.{w64}
use Rattle.card.specs.Calls.{move}
use Rattle.records.proofs.move_by.Goals as goal

pub returns-clause-value : goal.returns-clause-value
returns-clause-value c =
    let d : to_z w64 (of_z w64 c.args.d) ≡ c.args.d = to_z-of_z c.ranges.d in
    (c.called.ensures (move c.args.d) (λ x a e. rw (← d) (search rules))).0

pub returns-clause-out_after : goal.returns-clause-out_after
returns-clause-out_after c =
    let d : to_z w64 (of_z w64 c.args.d) ≡ c.args.d = to_z-of_z c.ranges.d in
    (c.called.ensures (move c.args.d) (λ x a e. rw (← d) (search rules))).1

-- `done` and a space, and then the card of all zeros.
use Rattle.std.proofs.Common.{rules, ◌≡◌}
use Rattle.card.specs.Zero.{zero_card}
use Rattle.wire.proofs.PartLaws.{holds_both}
use Rattle.wire.specs.Line.{done_part}
use Rattle.wire.proofs.put_done.Goals as goal

pub returns-clause-out_after : goal.returns-clause-out_after
unfolding done_part
returns-clause-out_after c =
    let zeros : zero_card ≡ c.refused.result.card = search rules in
    rw zeros
    (holds_both _ _ _ _ _ _ _ _ (search rules) (search rules) c.put_bytes-end.ensures.value c.put_bytes-end.ensures.out_after c.put_card.ensures.value
    c.put_card.ensures.out_after)

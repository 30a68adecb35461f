-- The position too far from the mark, or the card with what is new.
use Rattle.std.proofs.Common.{rules, ◌≡◌, true, false, w64, to_z, of_z}
use Rattle.card.specs.Checks.{position_fits}
use Rattle.card.proofs.StepLaws.{retided-far, retided-near}
use Rattle.card.proofs.calls.retided.Goals as goal

pub returns-then-not-position_fits : goal.returns-then-not-position_fits
returns-then-not-position_fits c =
    let f : position_fits c.args.c.mark c.args.position ≡ false = search rules in
    retided-far c.args.c c.args.to c.args.position c.args.solid f

pub returns : goal.returns
returns c =
    let f : position_fits c.args.c.mark c.args.position ≡ true = search rules in
    let e : to_z w64 (of_z w64 c.args.c.epoch) ≡ c.args.c.epoch = search rules in
    rw (e, c.with_state.ensures) (retided-near c.args.c c.args.to c.args.position c.args.solid f)

-- A body is refused where its squares are out of range.
use Rattle.std.proofs.Common.{rules, ◌≡◌, sym, ◌∙◌, Err, Some, None}
use Rattle.mark.proofs.LengthLaws.{asked, squares-none, squares-some}
use Rattle.refusal.specs.declared.Refusal.TheVariants.{BodyDistance}
use Rattle.tides.specs.Steps.{sight_of}
use Rattle.tides.proofs.bodies.reach.Goals as goal

pub returns-in_err-squares : goal.returns-in_err-squares
unfolding sight_of
returns-in_err-squares c =
    let a = c.args in
    let e : c.from_residual.result ≡ Err BodyDistance = search rules in
    let n : c.squares_within.result ≡ None = search rules in
    e ∙ rw (squares-none a.low a.high a.at (sym (c.squares_within.ensures ∙ asked a.low a.high a.at c.requires) ∙ n))

pub returns : goal.returns
unfolding sight_of
returns c =
    let a = c.args in
    let n = c.in_ok-squares.squares in
    let s : c.squares_within.result ≡ Some n = search rules in
    let k = squares-some a.low a.high a.at n (sym (c.squares_within.ensures ∙ asked a.low a.high a.at c.requires) ∙ s) in
    rw (k.0, k.1)

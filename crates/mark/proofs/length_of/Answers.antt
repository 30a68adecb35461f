-- A mark is refused where its squares are out of range; else its whole length is their root.
use Rattle.std.proofs.Common.{rules, ◌≡◌, sym, ◌∙◌, Err, Some, None}
use Rattle.refusal.specs.declared.Refusal.TheVariants as Is
use Rattle.mark.proofs.LengthLaws.{outside-zero, root-within}
use Rattle.mark.proofs.MarkLaws.{squares-unmarked, squares-accepted, number-marked, number-unmarked}
use Rattle.mark.proofs.length_of.Goals as goal

pub returns-in_err-squares : goal.returns-in_err-squares
returns-in_err-squares c =
    let e : c.from_residual.result ≡ Err Is.Mark = search rules in
    let n : c.sum_within.result ≡ None = search rules in
    let o = sym c.sum_within.ensures ∙ n in
    rw (e, number-unmarked c.args.m (squares-unmarked c.args.m o), outside-zero 6300000 6400000 c.args.m o)

pub returns : goal.returns
returns c =
    let s : c.sum_within.result ≡ Some c.in_ok-squares.squares = search rules in
    let o = sym c.sum_within.ensures ∙ s in
    rw (number-marked c.args.m (squares-accepted c.args.m c.in_ok-squares.squares o), c.root.ensures, root-within 6300000 6400000 c.args.m c.in_ok-squares.squares o)

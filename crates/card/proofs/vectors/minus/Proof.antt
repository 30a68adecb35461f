-- `card::vectors::minus` meets its contract, a component at a time. Assumes nothing.
use lib.Dec.{lit<}
use Rattle.algebra.proofs.Machine.{fit}
use Rattle.card.proofs.VectorLaws.{stored, differences}
use Rattle.card.proofs.vectors.minus.Statement.{statement}
use Rattle.card.proofs.vectors.minus.Tie as tie

sub-t3 : tie.Need-overflow_sub-result
sub-t3 c = fit (differences c.args.v c.args.w c.requires.0 c.requires.1).x (lit< tt)

sub-t4 : tie.Need-overflow_sub-result-2
sub-t4 c = fit (differences c.args.v c.args.w c.requires.0 c.requires.1).y (lit< tt)

sub-t5 : tie.Need-overflow_sub-result-3
sub-t5 c = fit (differences c.args.v c.args.w c.requires.0 c.requires.1).z (lit< tt)

returns : tie.Need-returns
returns c = stored (differences c.args.v c.args.w c.requires.0 c.requires.1) (lit< tt)

pub minus_spec : {M : Type 1} → statement M
minus_spec = tie.close (tie.spec sub-t3 sub-t4 sub-t5 returns)

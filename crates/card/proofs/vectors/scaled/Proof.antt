-- `card::vectors::scaled` meets its contract, a component at a time. Assumes nothing.
use lib.Dec.{lit<}
use Rattle.algebra.proofs.Machine.{fit}
use Rattle.card.proofs.VectorLaws.{stored, multiples}
use Rattle.card.proofs.vectors.scaled.Statement.{statement}
use Rattle.card.proofs.vectors.scaled.Tie as tie

mul-t3 : tie.Need-overflow_mul-result
mul-t3 c = fit (multiples c.args.k c.args.v c.requires.0 c.requires.1).x (lit< tt)

mul-t4 : tie.Need-overflow_mul-result-2
mul-t4 c = fit (multiples c.args.k c.args.v c.requires.0 c.requires.1).y (lit< tt)

mul-t5 : tie.Need-overflow_mul-result-3
mul-t5 c = fit (multiples c.args.k c.args.v c.requires.0 c.requires.1).z (lit< tt)

returns : tie.Need-returns
returns c = stored (multiples c.args.k c.args.v c.requires.0 c.requires.1) (lit< tt)

pub scaled_spec : {M : Type 1} → statement M
scaled_spec = tie.close (tie.spec mul-t3 mul-t4 mul-t5 returns)

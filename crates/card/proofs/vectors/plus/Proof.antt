-- `card::vectors::plus` meets its contract, a component at a time. Assumes nothing.
use lib.Dec.{lit<}
use Rattle.algebra.proofs.Machine.{fit}
use Rattle.card.proofs.VectorLaws.{stored, sums}
use Rattle.card.proofs.vectors.plus.Statement.{statement}
use Rattle.card.proofs.vectors.plus.Tie as tie

add-t3 : tie.Need-overflow_add-result
add-t3 c = fit (sums c.args.v c.args.w c.requires.0 c.requires.1).x (lit< tt)

add-t4 : tie.Need-overflow_add-result-2
add-t4 c = fit (sums c.args.v c.args.w c.requires.0 c.requires.1).y (lit< tt)

add-t5 : tie.Need-overflow_add-result-3
add-t5 c = fit (sums c.args.v c.args.w c.requires.0 c.requires.1).z (lit< tt)

returns : tie.Need-returns
returns c = stored (sums c.args.v c.args.w c.requires.0 c.requires.1) (lit< tt)

pub plus_spec : {M : Type 1} → statement M
plus_spec = tie.close (tie.spec add-t3 add-t4 add-t5 returns)

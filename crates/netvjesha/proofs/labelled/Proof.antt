-- `netvjesha::labelled` meets its contract: a body by its label. Assumes nothing.
use native.Mathlib.Omega.{arith}
use Rattle.netvjesha.proofs.FaceLaws.{labelled-first, labelled-second, labelled-sun, labelled-moon}
use Rattle.netvjesha.proofs.labelled.Statement.{statement}
use Rattle.netvjesha.proofs.labelled.Tie as tie

pub labelled_spec : {M : Type 1} → statement M
labelled_spec =
    tie.close
    (tie.spec (λ c. labelled-first c.args.la c.args.lb c.args.none c.args.v c.args.label (omega arith)) (λ c. labelled-second c.args.la c.args.lb c.args.none c.args.v c.args.label (omega arith) (omega arith))
    (λ c. labelled-sun c.args.la c.args.lb c.args.none c.args.v c.args.label (omega arith) (omega arith) (omega arith))
    (λ c. labelled-moon c.args.la c.args.lb c.args.none c.args.v c.args.label (omega arith) (omega arith) (λ e. omega arith)))

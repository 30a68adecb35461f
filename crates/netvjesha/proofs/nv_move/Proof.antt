-- `netvjesha::nv_move` meets its contract: a move on the card's bytes. Assumes nothing.
use mathlib.Core.Path.{ap}
use borrow.Author.Rules.{rules}
use mir.Facts.{to_z-of_z}
use Rattle.card.specs.Calls.{move}
use Rattle.records.proofs.BytesLaws.{same-call}
use Rattle.netvjesha.proofs.nv_move.Statement.{statement}
use Rattle.netvjesha.proofs.nv_move.Tie as tie

pub nv_move_spec : {M : Type 1} → statement M
nv_move_spec =
    tie.close
    (tie.spec (λ c κs. search rules) (λ c. search rules)
    (λ c. same-call _ _ _ _ _ _ (ap move (to_z-of_z c.ranges.d)) c.move_by.ensures))

-- Ties at one pillar: what a list that both cards accept in full does to the vector between two instruments. Only their velocities move it.
use mathlib.Core.Path.{◌≡◌, ap}
use mathlib.Core.List.{List}
use Rattle.mark.specs.Mark.{plus, scaled}
use Rattle.card.specs.declared.Card.{Card}
use Rattle.card.specs.Checks.{Valid}
use Rattle.card.specs.Calls.{Call}
use Rattle.laws.specs.Lists.{run, numbers, verdicts, net, total, Accepted, Still}
use Rattle.laws.specs.TwoCards.{Alike, Agree, between, parting, InLimits}
use Rattle.laws.proofs.ListTheorem.{net-total}
use Rattle.laws.proofs.TwoCardLaws.{accepted-same, run-agreed, difference-agreed, velocity-agreed, difference-still}
use Rattle.laws.proofs.AlikeNumbers.{alike-numbers}

module _ (c c' : Card) (ks : List Call) (s : Alike c c') (a : Accepted c ks) (a' : Accepted c' ks) where
  same : Agree c c' ks
  same = accepted-same c c' ks a a'

  -- the vector between them changes by their velocity difference times the net move
  pub tie : between (run c ks) (run c' ks) ≡ plus (between c c') (scaled (net c ks) (parting c c'))
  tie = difference-agreed c c' ks s same

  -- which is the sum of the list's moves, for both
  pub tie-net : (net c ks ≡ total ks) × (net c' ks ≡ total ks)
  tie-net = (net-total c ks a, net-total c' ks a')

  -- frame changes and tides leave it exactly as it was
  pub tie-still : Still ks → between (run c ks) (run c' ks) ≡ between c c'
  tie-still = difference-still c c' ks s same

  -- the velocity difference never changes
  pub tie-velocity : parting (run c ks) (run c' ks) ≡ parting c c'
  tie-velocity = velocity-agreed c c' ks s same

  -- they stay alike: mark, frame, epoch, byte 10 and stored vector
  pub tie-alike : Alike (run c ks) (run c' ks)
  tie-alike = run-agreed c c' ks s same

-- refused calls do no harm: of two valid cards, where neither refuses a call with 7 or 8
module _ (c c' : Card) (ks : List Call) (s : Alike c c') (v : Valid c × Valid c') (l : InLimits (numbers c ks) × InLimits (numbers c' ks)) where
  pub tie-refused : between (run c ks) (run c' ks) ≡ plus (between c c') (scaled (net c ks) (parting c c'))
  tie-refused = difference-agreed c c' ks s (ap verdicts (alike-numbers c c' ks v.0 v.1 s l.0 l.1))

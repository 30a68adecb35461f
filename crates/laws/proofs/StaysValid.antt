-- An accepted call's card passes the nine checks again, so every card of a run is valid, and no call answers 9.
use mathlib.Core.Path.{◌≡◌, sym, ◌∙◌}
use mathlib.Core.Bool.{Bool, not}
use mathlib.Core.List.{List, [], ◌∷◌}
use lib.Dec.{T}
use Rattle.refusal.proofs.FirstLaws.{among, unlisted}
use Rattle.card.specs.declared.Card.{Card}
use Rattle.card.specs.Checks.{Valid}
use Rattle.card.specs.Calls.{Call, move, frame, mean_on, mean_off, solid_on, solid_off, next, own, call_number, step}
use Rattle.card.proofs.CheckLaws.{number-valid, valid-number}
use Rattle.card.proofs.CallLaws.{own-number, stays-valid as accepted-again}
use Rattle.laws.specs.Lists.{run}
use Rattle.laws.proofs.CallLaws.{settled}

pub next-valid : (c : Card) (k : Call) → call_number c k ≡ 0 → Valid (next c k)
next-valid c k e = number-valid (next c k) (accepted-again c k e)

-- refused or accepted
pub stays-valid : (c : Card) (k : Call) → Valid c → Valid (step c k).card
stays-valid c k v = settled (λ (t : Bool) (n : Card). Valid n) c k (next-valid c k) v

pub run-valid : (c : Card) (ks : List Call) → Valid c → Valid (run c ks)
unfolding run
run-valid c [] v = v
run-valid c (k ∷ ks) v = run-valid (step c k).card ks (stays-valid c k v)

-- ---- so refusal 9 comes of reading alone: no call on a valid card gives it

own-unlisted : (c n : Card) (k : Call) → T (not (among 9 (own c n k)))
unfolding own
own-unlisted c n (move d) = tt
own-unlisted c n (frame g) = tt
own-unlisted c n mean_on = tt
own-unlisted c n mean_off = tt
own-unlisted c n (solid_on a b) = tt
own-unlisted c n solid_off = tt

pub never-nine : (c : Card) (k : Call) → Valid c → call_number c k ≡ 9 → ⊥
never-nine c k v e =
    unlisted 9 (own c (next c k) k) tt (own-unlisted c (next c k) k) (sym (own-number c k (valid-number c v)) ∙ e)

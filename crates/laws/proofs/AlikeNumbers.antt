-- Two alike cards give each call the same number, but for 7 and 8: where a velocity or a position goes past its limit.
use mathlib.Core.Path.{◌≡◌, refl, sym, ◌∙◌, ap, ap₂, subst}
use mathlib.Core.Bool.{Bool, true, false, not, cond}
use mathlib.Core.List.{List, [], ◌∷◌}
use Prim.Native.Nat.{ℕ}
use lib.Dec.{T, eqb}
use lib.IntN.{◌+ℤ◌}
use Rattle.refusal.specs.Refusal.{Table, choose, first}
use Rattle.tides.specs.Tide.{pair_checks}
use Rattle.head.specs.State.{state_of}
use Rattle.head.specs.Head.{epoch_fits}
use Rattle.card.specs.declared.Card.{Card}
use Rattle.card.specs.Checks.{Valid}
use Rattle.card.specs.Calls.{Call, move, frame, mean_on, mean_off, solid_on, solid_off, moved, reframed, next, own, call_number, step}
use Rattle.card.proofs.CheckLaws.{valid-number}
use Rattle.card.proofs.CallLaws.{own-number}
use Rattle.laws.specs.Lists.{numbers}
use Rattle.laws.specs.TwoCards.{Alike, past_limit, InLimits}
use Rattle.laws.proofs.StaysValid.{stays-valid}
use Rattle.laws.proofs.TwoCardLaws.{step-agreed}

-- ---- a table without its rows of 7 and 8

unfoldable without : Table → Table
without [] = []
without (r ∷ t) = cond (past_limit r.0) (without t) (r ∷ without t)

-- gives the number that the table gives, where that is neither
first-without : (t : Table) → T (not (past_limit (first t))) → first t ≡ first (without t)
unfolding first without
first-without [] h = refl
first-without (r ∷ t) h = row r.0 r.1 (past_limit r.0) refl h (first-without t)
  where
    row :
        (n : ℕ) (b l : Bool)
        → past_limit n ≡ l
        → T (not (past_limit (choose b n (first t))))
        → (T (not (past_limit (first t))) → first t ≡ first (without t))
        → choose b n (first t) ≡ first (cond l (without t) ((n, b) ∷ without t))
    row n true true e k rest = absurd (subst (λ (x : Bool). T (not x)) e k)
    row n true false e k rest = refl
    row n false true e k rest = rest k
    row n false false e k rest = rest k

-- ---- alike cards

-- what is left of a call's own checks looks at the tides in force, the epoch and the call alone
own_same : (c c' : Card) (k : Call) → Alike c c' → without (own c (next c k) k) ≡ without (own c' (next c' k) k)
unfolding own next moved reframed without
own_same c c' (move d) s = λ i. (13, eqb (state_of (s.tides i).byte) 2) ∷ (5, not (epoch_fits (s.epoch i +ℤ d))) ∷ []
own_same c c' (frame g) s = refl
own_same c c' mean_on s = λ i. (12, not (eqb (state_of (s.tides i).byte) 0)) ∷ []
own_same c c' mean_off s = λ i. (12, not (eqb (state_of (s.tides i).byte) 1)) ∷ []
own_same c c' (solid_on a b) s = λ i. (12, not (eqb (state_of (s.tides i).byte) 0)) ∷ pair_checks a b
own_same c c' solid_off s = λ i. (12, not (eqb (state_of (s.tides i).byte) 2)) ∷ []

pub alike-number :
    (c c' : Card) (k : Call)
    → Valid c
    → Valid c'
    → Alike c c'
    → T (not (past_limit (call_number c k)))
    → T (not (past_limit (call_number c' k)))
    → call_number c k ≡ call_number c' k
alike-number c c' k v v' s h h' =
    own-without c v h ∙ ap first (own_same c c' k s) ∙ sym (own-without c' v' h')
  where
    own-without : (d : Card) → Valid d → T (not (past_limit (call_number d k))) → call_number d k ≡ first (without (own d (next d k) k))
    own-without d w l =
        let n = own-number d k (valid-number d w) in
        n ∙ first-without (own d (next d k) k) (subst (λ (m : ℕ). T (not (past_limit m))) n l)

-- and so each call of a list of which neither card refuses any with 7 or 8
pub alike-numbers :
    (c c' : Card) (ks : List Call)
    → Valid c
    → Valid c'
    → Alike c c'
    → InLimits (numbers c ks)
    → InLimits (numbers c' ks)
    → numbers c ks ≡ numbers c' ks
unfolding numbers InLimits
alike-numbers c c' [] v v' s h h' = refl
alike-numbers c c' (k ∷ ks) v v' s h h' =
    let e = alike-number c c' k v v' s h.0 h'.0 in
    ap₂ ◌∷◌ e
    (alike-numbers (step c k).card (step c' k).card ks (stays-valid c k v) (stays-valid c' k v') (step-agreed c c' k s (ap (λ (n : ℕ). eqb n 0) e)) h.1 h'.1)

-- Solid on with the two bodies in either order: the same number and the same card, byte for byte.
use mathlib.Core.Path.{◌≡◌, refl, sym, ap, ◌∙◌}
use mathlib.Core.Bool.{Bool, true, false, not, true≢false}
use mathlib.Core.List.{[], ◌∷◌, ◌++◌}
use Prim.Native.Nat.{ℕ}
use borrow.Author.Tests.{ne_eqb}
use lib.Dec.{lit<}
use Rattle.refusal.specs.Refusal.{Table, choose, first}
use Rattle.tides.specs.declared.Body.{Body}
use Rattle.tides.specs.declared.Body.TheVariants.{Moon, Sun}
use Rattle.tides.specs.Bodies.{paired, moon_of, sun_of}
use Rattle.card.specs.declared.Card.{Card}
use Rattle.card.specs.Checks.{checks}
use Rattle.card.specs.Calls.{solid_on, next, own, call_number, settle, step}
use Rattle.card.proofs.CallLaws.{own-accepted}

-- what comes after a condition that holds does not matter
behind : (t u v : Table) (e : ℕ × Bool) (n : ℕ) → first (t ++ (e ∷ (n, true) ∷ u)) ≡ first (t ++ (e ∷ (n, true) ∷ v))
unfolding first
behind [] u v e n = refl
behind (x ∷ t) u v e n = ap (choose x.1 x.0) (behind t u v e n)

-- two bodies that are no pair are refused
module _ (c : Card) (a b : Body) (p : paired a b ≡ false) where
  refused : call_number c (solid_on a b) ≡ 0 → ⊥
  unfolding own
  refused e = true≢false (sym (ap not p) ∙ own-accepted c (solid_on a b) e 1 (lit< tt))

  kept : step c (solid_on a b) ≡ record { number = call_number c (solid_on a b); card = c }
  unfolding step settle
  kept = rw (ne_eqb (call_number c (solid_on a b)) 0 refused)

module _ (c : Card) (a b : Body) (p : paired a b ≡ false) (q : paired b a ≡ false) where
  same_number : call_number c (solid_on a b) ≡ call_number c (solid_on b a)
  unfolding call_number own
  same_number = rw (p, q) (behind (checks true c) _ _ _ 17)

  same_step : step c (solid_on a b) ≡ step c (solid_on b a)
  same_step = kept c a b p ∙ rw same_number (sym (kept c b a q))

pub either_order : (c : Card) (a b : Body) → step c (solid_on a b) ≡ step c (solid_on b a)
unfolding step call_number next own paired moon_of sun_of
either_order c (Moon v) (Moon w) = same_step c (Moon v) (Moon w) refl refl
either_order c (Moon v) (Sun w) = refl
either_order c (Sun v) (Moon w) = refl
either_order c (Sun v) (Sun w) = same_step c (Sun v) (Sun w) refl refl

-- Refusal tables: a number that does not stand in a table is not its answer, and no answer is above all of its numbers.
use mathlib.Core.Path.{◌≡◌, subst}
use mathlib.Core.Bool.{Bool, true, false, not, ◌||◌, ◌&&◌}
use mathlib.Core.List.{[], ◌∷◌}
use Prim.Native.Nat.{ℕ, ◌<◌}
use borrow.Author.Tests.{ltb-true}
use lib.Dec.{T, T_not, eqb, eqb_refl, ltb}
use Rattle.algebra.proofs.BoolLaws.{both}
use Rattle.refusal.specs.Refusal.{Table, choose, first}

abbrev pub among : ℕ → Table → Bool
among n [] = false
among n (entry ∷ table) = eqb entry.0 n || among n table

neither : (a b : Bool) → T (not (a || b)) → T (not a) × T (not b)
neither true b t = absurd t
neither false b t = (tt, t)

other : (b : Bool) (m rest n : ℕ) → T (not (eqb m n)) → choose b m rest ≡ n → rest ≡ n
other true m rest n t e = absurd (T_not (eqb m n) t (subst (λ (k : ℕ). T (eqb m k)) e (eqb_refl m)))
other false m rest n t e = e

pub unlisted : (n : ℕ) (t : Table) → T (not (eqb n 0)) → T (not (among n t)) → first t ≡ n → ⊥
unfolding first
unlisted n [] z h e = T_not (eqb n 0) z (subst (λ (k : ℕ). T (eqb k 0)) e tt)
unlisted n (entry ∷ table) z h e =
    let k = neither (eqb entry.0 n) (among n table) h in
    unlisted n table z k.1 (other entry.1 entry.0 (first table) n k.0 e)

-- every number of a table is below b: of a written table this is `refl`
abbrev pub all_below : ℕ → Table → Bool
all_below b [] = true
all_below b (entry ∷ table) = ltb entry.0 b && all_below b table

pub first_below : (b : ℕ) (t : Table) → 0 < b → all_below b t ≡ true → first t < b
unfolding first
first_below b [] z h = z
first_below b (entry ∷ table) z h =
    let k = both (ltb entry.0 b) (all_below b table) h in
    go entry.1 (ltb-true entry.0 b k.0) (first_below b table z k.1)
  where
    go : (c : Bool) → entry.0 < b → first table < b → choose c entry.0 (first table) < b
    go true l m = l
    go false l m = m

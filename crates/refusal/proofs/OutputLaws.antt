-- What a call answers that writes: one refusal before another, and what the output holds under a number.
use mathlib.Core.Path.{◌≡◌, refl, ◌∙◌}
use mathlib.Core.Bool.{Bool, true, false, cond}
use mathlib.Core.List.{List, ◌++◌}
use Prim.Native.Nat.{ℕ, zero, suc}
use native.Mathlib.Omega.{arith}
use borrow.Author.Tests.{eq-eqb, ne_eqb, eqb-true}
use lib.Dec.{eqb}
use Rattle.refusal.specs.Refusal.{Table, first}
use Rattle.refusal.specs.Outputs.{before, roomy, kept}
use Rattle.refusal.proofs.RefusalLaws.{positive, stays, onward}

-- ---- one refusal before another

pub one : ◌≡◌ {A = ℕ} 1 0 → ⊥
one e = omega arith

pub too_short : (l room after : ℕ) → (room ≡ l → ⊥) → 1 ≡ roomy l room after
unfolding roomy
too_short l room after h = rw (ne_eqb room l h)

pub long-enough : (l room after : ℕ) → room ≡ l → after ≡ roomy l room after
unfolding roomy
long-enough l room after h = rw (eq-eqb room l h)

pub refused-before : (n after : ℕ) → (n ≡ 0 → ⊥) → n ≡ before n after
unfolding before
refused-before n after h = rw (ne_eqb n 0 h)

pub passed-before : (n after : ℕ) → n ≡ 0 → after ≡ before n after
unfolding before
passed-before n after h = rw (eq-eqb n 0 h)

pub keeps : {A : Type 0} (n m : ℕ) (new old : List A) → n ≡ m → (n ≡ 0 → ⊥) → old ≡ kept m new old
keeps n m new old e h = rw (← e, ne_eqb n 0 h)

pub takes : {A : Type 0} (n m : ℕ) (new old : List A) → n ≡ m → n ≡ 0 → new ≡ kept m new old
takes n m new old e h = rw (← e, eq-eqb n 0 h)

-- a number 0 of an output: its length is right, and what follows is 0
pub roomy-zero : (l room after : ℕ) → roomy l room after ≡ 0 → (room ≡ l) × (after ≡ 0)
unfolding roomy
roomy-zero l room after e = go (eqb room l) refl e
  where
    go : (b : Bool) → eqb room l ≡ b → cond b after 1 ≡ 0 → (room ≡ l) × (after ≡ 0)
    go true h f = (eqb-true room l h, f)
    go false h f = absurd (one f)

pub before-zero : (n after : ℕ) → before n after ≡ 0 → (n ≡ 0) × (after ≡ 0)
before-zero n after e = go n refl
  where
    go : (m : ℕ) → n ≡ m → (n ≡ 0) × (after ≡ 0)
    go zero h = (h, passed-before n after h ∙ e)
    go (suc m) h = absurd (never (refused-before n after never ∙ e))
      where
        never : n ≡ 0 → ⊥
        never z = omega arith

-- of a table in two parts, the first part's number before the second's
pub joined : (t u : Table) → positive t ≡ true → first (t ++ u) ≡ before (first t) (first u)
joined t u p = go (first t) refl
  where
    go : (n : ℕ) → first t ≡ n → first (t ++ u) ≡ before (first t) (first u)
    go zero e = onward t u p e ∙ passed-before (first t) (first u) e
    go (suc n) e = stays t u (omega arith) ∙ refused-before (first t) (first u) (λ z. omega arith)

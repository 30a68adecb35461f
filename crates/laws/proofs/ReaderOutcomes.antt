-- The reader's two functions have one outcome each: what they answer, and what the lent reader is afterwards. What each promises is tied by hand to the promise as it is generated, since a struct that holds a reference is lent.
use mathlib.Core.Path.{◌≡◌, sym, ◌∙◌}
use contract.Monad.{Fun, fact, fact_i, fact_use}
use seplogic.Ra.Ura.{Ura}
use base.Logic.{SProp, ent, sep, via, fst∗, snd∗, id⊢}
use prog.Memory.{Memory}
use prog.Routine.{Routine}
use types.Logic.{Logic}
use Rattle.laws.specs.OneOutcome.{OneWalked}
use Rattle.catalogue.proofs.ReaderLaws.{taken-same}
use Rattle.catalogue.specs.contracts.open as opened
use Rattle.catalogue.specs.contracts.next as next

-- both equal what the promise says
same : {A : Type 0} {x y z : A} → x ≡ z → y ≡ z → x ≡ y
same p q = p ∙ sym q

module _ {M : Type 1} (𝓤 : Ura M) where
  -- what follows from two facts beside each other
  both : (φ χ ψ : Type 0) (P Q : SProp 𝓤) → ent 𝓤 P (fact 𝓤 φ) → ent 𝓤 Q (fact 𝓤 χ) → (φ → χ → ψ) → ent 𝓤 (sep 𝓤 P Q) (fact 𝓤 ψ)
  both φ χ ψ P Q h k f = fact_use 𝓤 φ (via 𝓤 P (fst∗ 𝓤 P Q) h) (λ x. fact_use 𝓤 χ (via 𝓤 Q (snd∗ 𝓤 P Q) k) (λ y. fact_i 𝓤 ψ (sep 𝓤 P Q) (f x y)))

  two : (φ χ : Type 0) → ent 𝓤 (sep 𝓤 (fact 𝓤 φ) (fact 𝓤 χ)) (fact 𝓤 (φ × χ))
  two φ χ = both φ χ (φ × χ) (fact 𝓤 φ) (fact 𝓤 χ) (id⊢ 𝓤 (fact 𝓤 φ)) (id⊢ 𝓤 (fact 𝓤 χ)) (λ x y. (x, y))

  three : (φ χ ψ : Type 0) → ent 𝓤 (sep 𝓤 (fact 𝓤 φ) (sep 𝓤 (fact 𝓤 χ) (fact 𝓤 ψ))) (fact 𝓤 (φ × (χ × ψ)))
  three φ χ ψ = both φ (χ × ψ) (φ × (χ × ψ)) (fact 𝓤 φ) (sep 𝓤 (fact 𝓤 χ) (fact 𝓤 ψ)) (id⊢ 𝓤 (fact 𝓤 φ)) (two χ ψ) (λ x y. (x, y))

module _ {M : Type 1} {𝓤 : Ura M} (𝓛 : Logic 𝓤) (mem : Memory → SProp 𝓤) (run : Routine → Fun 𝓤) where
  pub open-one : OneWalked 𝓤 opened.ended (opened.clauses 𝓛 mem run)
  open-one κs a g z z' w w' = both 𝓤 _ _ _ _ _ (two 𝓤 _ _) (two 𝓤 _ _) (λ p q i. (record { src = same p.0 q.0 i; at = same p.1 q.1 i }, w))

  pub next_one : OneWalked 𝓤 next.ended (next.clauses 𝓛 mem run)
  next_one κs a g z z' w w' =
      both 𝓤 _ _ _ _ _ (three 𝓤 _ _ _) (three 𝓤 _ _ _)
      (λ p q i. (taken-same z z' (same p.0 q.0) i, (record { src = same p.1.0 q.1.0 i; at = same p.1.1 q.1.1 i }, tt)))

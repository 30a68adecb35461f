-- Two records side by side, with the same calls on both, each accepted by both or refused by both. Each record has buffers of its own.
use Rattle.std.specs.Prelude.{◌≡◌, List, [], ◌∷◌, ℕ}
use Rattle.laws.specs.Lists.{verdicts}
use Rattle.laws.specs.ByteLists.{Lent, Roomy, calls_of, numbers_bytes}

pub record Together (s s' : List ℕ) (ls ls' : List Lent) : Type 0 where
  pub roomy : Roomy ls
  pub roomy' : Roomy ls'
  pub calls : calls_of ls ≡ calls_of ls'
  pub outcomes : verdicts (numbers_bytes s ls) ≡ verdicts (numbers_bytes s' ls')

-- the same number for each call of a list of anything
unfoldable pub each_of : {A : Type 0} → ℕ → List A → List ℕ
each_of n [] = []
each_of n (k ∷ ks) = n ∷ each_of n ks

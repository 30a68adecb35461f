-- Of many things in a row, the first that is refused, with its number and its place: rows of a series, cards of a catalogue.
use Rattle.std.specs.Prelude.{◌≡◌, cond, ℕ, zero, suc, ◌+◌, ◌≤◌, ◌<◌, eqb}

-- of the n things from place k on, the first whose number is not 0, and its place; else 0 and the place past the last
unfoldable pub first_bad : (ℕ → ℕ) → ℕ → ℕ → ℕ × ℕ
first_bad number k zero = (0, k)
first_bad number k (suc n) = cond (eqb (number k) 0) (first_bad number (k + 1) n) (number k, k)

-- place p is the first of them whose number is not 0, and its number is x
pub record FirstAt (number : ℕ → ℕ) (k n x p : ℕ) : Type 0 where
  pub from : k ≤ p
  pub inside : p < k + n
  pub is : number p ≡ x
  pub before : (i : ℕ) → k ≤ i → i < p → number i ≡ 0

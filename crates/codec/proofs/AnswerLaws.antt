-- What the reader of a card answers, from the length of what it was lent and the number of what it holds.
use mathlib.Core.Path.{◌≡◌, sym, ap, ◌∙◌}
use mathlib.Core.Bool.{Bool, cond}
use mathlib.Core.List.{List}
use Prim.Native.Nat.{ℕ}
use lib.Dec.{eqb}
use lib.ListN.{length, get_or}
use Rattle.refusal.specs.Refusal.{first}
use Rattle.refusal.proofs.OutputLaws.{one}
use Rattle.refusal.proofs.RefusalLaws.{wrong-length, past-length}
use Rattle.card.specs.declared.Card.{Card}
use Rattle.card.specs.Checks.{checks}
use Rattle.card.specs.Zero.{zero_card, refused_with}
use Rattle.card.proofs.StepLaws.{answer, settled}
use Rattle.codec.specs.Codec.{card_length, decode, read_number, read_card}

pub number_short : (s : List ℕ) → (length s ≡ card_length → ⊥) → 1 ≡ read_number s
unfolding read_number
number_short s h = wrong-length (length s) card_length (checks (eqb (get_or s 11 0) 0) (decode s)) h

pub number-long : (s : List ℕ) → length s ≡ card_length → first (checks (eqb (get_or s 11 0) 0) (decode s)) ≡ read_number s
unfolding read_number
number-long s h = sym (past-length (length s) card_length (checks (eqb (get_or s 11 0) 0) (decode s)) h)

pub read-refused : (s : List ℕ) (n : ℕ) → n ≡ read_number s → (n ≡ 0 → ⊥) → refused_with n ≡ read_card s
unfolding read_card
read-refused s n e h = settled n (decode s) zero_card h ∙ ap (λ (k : ℕ). answer k (cond (eqb k 0) (decode s) zero_card)) e

pub read_short : (s : List ℕ) → (length s ≡ card_length → ⊥) → refused_with 1 ≡ read_card s
read_short s h = read-refused s 1 (number_short s h) one

pub read_number_lem : (s : List ℕ) (n : ℕ) (z : Bool) (c : Card) → length s ≡ card_length → z ≡ eqb (get_or s 11 0) 0 → c ≡ decode s → n ≡ first (checks z c) → n ≡ read_number s
read_number_lem s n z c l e f h = h ∙ ap (λ (x : Bool). first (checks x c)) e ∙ ap (λ (x : Card). first (checks (eqb (get_or s 11 0) 0) x)) f ∙ number-long s l

pub read_taken : (s : List ℕ) (c : Card) → c ≡ decode s → 0 ≡ read_number s → answer 0 c ≡ read_card s
unfolding read_card
read_taken s c f h = ap (answer 0) f ∙ ap (λ (k : ℕ). answer k (cond (eqb k 0) (decode s) zero_card)) h

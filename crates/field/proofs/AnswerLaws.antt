-- What export and expand answer, from the length of what they were lent and the number of what it holds.
use mathlib.Core.Path.{◌≡◌, refl, sym, ap, ◌∙◌}
use mathlib.Core.Bool.{Bool, true, false, cond}
use mathlib.Core.List.{List, [], ◌∷◌, ◌++◌}
use Prim.Native.Nat.{ℕ}
use native.Mathlib.Nat.{pos_of_ne-zero}
use borrow.Author.Tests.{eq-eqb, ne_eqb}
use lib.Dec.{eqb}
use lib.ListN.{length}
use Rattle.refusal.specs.Refusal.{first}
use Rattle.refusal.proofs.OutputLaws.{one, keeps, takes}
use Rattle.refusal.proofs.RefusalLaws.{onward, stays, wrong-length, past-length}
use Rattle.head.specs.State.{state_of}
use Rattle.card.specs.declared.Card.{Card}
use Rattle.card.specs.Checks.{checks, card_number}
use Rattle.card.specs.Zero.{zero_card, refused_with}
use Rattle.card.proofs.CheckLaws.{positive-checks}
use Rattle.card.proofs.StepLaws.{answer, settled}
use Rattle.field.specs.declared.record.Opened.{Opened}
use Rattle.field.specs.Field.{field_length, field_of, export_number, exported, opened_of, zero_bytes, opened_checks, field_number, expanded_of, expand_card}

-- ---- the field edition, written

pub export-short : (c : Card) (n : ℕ) → (n ≡ field_length → ⊥) → 1 ≡ export_number c n
unfolding export_number
export-short c n h = wrong-length n field_length (checks true c ++ ((12, eqb (state_of c.tide) 2) ∷ [])) h

later : (c : Card) (n : ℕ) → n ≡ field_length → first (checks true c ++ ((12, eqb (state_of c.tide) 2) ∷ [])) ≡ export_number c n
unfolding export_number
later c n l = sym (past-length n field_length (checks true c ++ ((12, eqb (state_of c.tide) 2) ∷ [])) l)

pub export-refused : (c : Card) (n k : ℕ) → n ≡ field_length → k ≡ card_number c → (k ≡ 0 → ⊥) → k ≡ export_number c n
unfolding card_number
export-refused c n k l e h =
    e ∙ sym (stays (checks true c) ((12, eqb (state_of c.tide) 2) ∷ []) (pos_of_ne-zero (λ z. h (e ∙ z)))) ∙ later c n l

twelve : (b : Bool) → b ≡ true → 12 ≡ first ((12, b) ∷ [])
unfolding first
twelve b e = rw e

nothing : (b : Bool) → b ≡ false → 0 ≡ first ((12, b) ∷ [])
unfolding first
nothing b e = rw e

pub export-tide : (c : Card) (n k : ℕ) → n ≡ field_length → k ≡ card_number c → k ≡ 0 → state_of c.tide ≡ 2 → 12 ≡ export_number c n
unfolding card_number
export-tide c n k l e z h =
    twelve (eqb (state_of c.tide) 2) (eq-eqb (state_of c.tide) 2 h)
    ∙ sym (onward (checks true c) ((12, eqb (state_of c.tide) 2) ∷ []) (positive-checks true c) (sym e ∙ z))
    ∙ later c n l

pub export-taken : (c : Card) (n k : ℕ) → n ≡ field_length → k ≡ card_number c → k ≡ 0 → (state_of c.tide ≡ 2 → ⊥) → 0 ≡ export_number c n
unfolding card_number
export-taken c n k l e z h =
    nothing (eqb (state_of c.tide) 2) (ne_eqb (state_of c.tide) 2 h)
    ∙ sym (onward (checks true c) ((12, eqb (state_of c.tide) 2) ∷ []) (positive-checks true c) (sym e ∙ z))
    ∙ later c n l

pub kept_field : (c : Card) (out : List ℕ) (n : ℕ) → n ≡ export_number c (length out) → (n ≡ 0 → ⊥) → (n ≡ export_number c (length out)) × (out ≡ exported c out)
unfolding exported
kept_field c out n e h = (e, keeps n (export_number c (length out)) (field_of c) out e h)

pub put-field : (c : Card) (out t : List ℕ) → 0 ≡ export_number c (length out) → t ≡ field_of c → (0 ≡ export_number c (length out)) × (t ≡ exported c out)
unfolding exported
put-field c out t e f = (e, f ∙ takes 0 (export_number c (length out)) (field_of c) out e refl)

-- ---- the field edition, read

field-short : (s : List ℕ) → (length s ≡ field_length → ⊥) → 1 ≡ field_number s
unfolding field_number
field-short s h = wrong-length (length s) field_length (opened_checks (zero_bytes s) (opened_of s)) h

field-long : (s : List ℕ) → length s ≡ field_length → first (opened_checks (zero_bytes s) (opened_of s)) ≡ field_number s
unfolding field_number
field-long s h = sym (past-length (length s) field_length (opened_checks (zero_bytes s) (opened_of s)) h)

pub expand-refused : (s : List ℕ) (n : ℕ) → n ≡ field_number s → (n ≡ 0 → ⊥) → refused_with n ≡ expand_card s
unfolding expand_card
expand-refused s n e h = settled n (expanded_of (opened_of s)) zero_card h ∙ ap (λ (k : ℕ). answer k (cond (eqb k 0) (expanded_of (opened_of s)) zero_card)) e

pub expand-short : (s : List ℕ) → (length s ≡ field_length → ⊥) → refused_with 1 ≡ expand_card s
expand-short s h = expand-refused s 1 (field-short s h) one

pub expand-number : (s : List ℕ) (n : ℕ) (z : Bool) (f : Opened) → length s ≡ field_length → z ≡ zero_bytes s → f ≡ opened_of s → n ≡ first (opened_checks z f) → n ≡ field_number s
expand-number s n z f l e g h = h ∙ ap (λ (x : Bool). first (opened_checks x f)) e ∙ ap (λ (x : Opened). first (opened_checks (zero_bytes s) x)) g ∙ field-long s l

pub expand-taken : (s : List ℕ) (c : Card) → c ≡ expanded_of (opened_of s) → 0 ≡ field_number s → answer 0 c ≡ expand_card s
unfolding expand_card
expand-taken s c f h = ap (answer 0) f ∙ ap (λ (k : ℕ). answer k (cond (eqb k 0) (expanded_of (opened_of s)) zero_card)) h

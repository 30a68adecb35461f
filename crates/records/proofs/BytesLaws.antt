-- What a call on bytes answers: what it starts from, the call on the record's card, and what the buffer holds under a number.
use mathlib.Core.Path.{◌≡◌, refl, sym, ap, ◌∙◌, subst}
use mathlib.Core.Bool.{Bool, true, false, cond, ◌&&◌}
use mathlib.Core.List.{List, ◌++◌}
use Prim.Native.Nat.{ℕ, zero, suc}
use native.Mathlib.Omega.{arith}
use lib.Dec.{eqb}
use lib.ListN.{length, get_or}
use Rattle.std.specs.Prelude.{Ok, Err}
use Rattle.refusal.specs.declared.Refusal.{Refusal}
use Rattle.refusal.specs.Answered.{number_of}
use Rattle.refusal.proofs.AnsweredLaws.{some}
use Rattle.refusal.specs.Outputs.{before, roomy, kept}
use Rattle.refusal.specs.Refusal.{first}
use Rattle.refusal.proofs.OutputLaws.{refused-before, passed-before, keeps}
use Rattle.refusal.proofs.RefusalLaws.{stays}
use Rattle.card.specs.declared.Card.{Card}
use Rattle.card.specs.declared.Answer.{Answer}
use Rattle.card.specs.Calls.{Call, next, call_number, settle, own, step}
use Rattle.card.specs.Checks.{checks, card_number}
use Rattle.card.specs.Zero.{answer_of}
use Rattle.codec.specs.Codec.{encode, decode, read_number, card_length}
use Rattle.codec.specs.Opened.{opened_number, opened_for, put_number, put_out}
use Rattle.codec.proofs.OpenedLaws.{number-opened, card-opened, number-held, put-settled}
use Rattle.records.specs.Bytes.{bytes_number, bytes_out}

-- the card's own number before the call's
number-before : (k : Call) (d : Card) → call_number d k ≡ before (card_number d) (call_number d k)
unfolding call_number card_number
number-before k d = go (first (checks true d)) refl
  where
    go : (n : ℕ) → first (checks true d) ≡ n → first (checks true d ++ own d (next d k) k) ≡ before (first (checks true d)) (first (checks true d ++ own d (next d k) k))
    go zero e = passed-before (first (checks true d)) (first (checks true d ++ own d (next d k) k)) e
    go (suc n) e =
        stays (checks true d) (own d (next d k) k) (omega (arith, e))
        ∙ refused-before (first (checks true d)) (first (checks true d ++ own d (next d k) k)) (λ w. omega (arith, w, e))

unopened : (b w : Bool) (r m : ℕ) → (cond b (cond w 0 r) 1 ≡ 0 → ⊥) → cond b (cond w 0 r) 1 ≡ cond b (before r m) 1
unopened true true r m h = absurd (h refl)
unopened true false r m h = refused-before r m h
unopened false w r m h = refl

-- ---- a call on a card's bytes

module _ (s out : List ℕ) where
  pub bytes-unopened : (d : Refusal) → answer_of (Err d) ≡ opened_for (length out) s → (k : Call) → (number_of d ≡ bytes_number (length out) s k) × (out ≡ bytes_out out s k)
  unfolding opened_number bytes_number bytes_out roomy
  bytes-unopened d q k =
      let n = number-opened (length out) s d q in
      let e = n ∙ unopened (eqb (length out) card_length) (eqb (length s) card_length && eqb (get_or s 11 0) 0) (read_number s) (call_number (decode s) k) (λ z. some d (n ∙ z)) in
      (e, keeps (number_of d) (bytes_number (length out) s k) (encode (next (decode s) k)) out e (some d))

  module _ (c : Card) (q : answer_of (Ok c) ≡ opened_for (length out) s) (k : Call) (a : Answer) (e : a ≡ step c k) where
    stepped : a ≡ step (decode s) k
    stepped = e ∙ ap (λ (x : Card). step x k) (card-opened (length out) s c q)

    -- the buffer's length, then the call's number, which begins with the record's
    number-stepped : roomy card_length (length out) (call_number (decode s) k) ≡ bytes_number (length out) s k
    unfolding bytes_number
    number-stepped =
        ap (roomy card_length (length out))
        (number-before k (decode s) ∙ ap (λ (n : ℕ). before n (call_number (decode s) k)) (sym (number-held (length out) s c q)))

    pub bytes-stepped : (n : ℕ) (w : List ℕ) → (n ≡ put_number a (length out)) × (w ≡ put_out a out) → (n ≡ bytes_number (length out) s k) × (w ≡ bytes_out out s k)
    unfolding step settle put_number bytes_out
    bytes-stepped n w h = (
      h.0 ∙ ap (λ (x : Answer). put_number x (length out)) stepped ∙ number-stepped,
      h.1 ∙ ap (λ (x : Answer). put_out x out) stepped ∙ put-settled (call_number (decode s) k) (next (decode s) k) (decode s) out
          ∙ ap (λ (m : ℕ). kept m (encode (next (decode s) k)) out) number-stepped,
    )

-- the same call by another word
pub same-call : (s out : List ℕ) (k q : Call) (n : ℕ) (w : List ℕ) → k ≡ q
    → (n ≡ bytes_number (length out) s k) × (w ≡ bytes_out out s k) → (n ≡ bytes_number (length out) s q) × (w ≡ bytes_out out s q)
same-call s out k q n w e h = subst (λ (x : Call). (n ≡ bytes_number (length out) s x) × (w ≡ bytes_out out s x)) e h

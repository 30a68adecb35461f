-- What a call on bytes starts from and ends with: a record opened, and an answer put into a lent buffer.
use mathlib.Core.Path.{◌≡◌, refl, sym, ap, ◌∙◌}
use mathlib.Core.Bool.{Bool, true, false, not, cond, ◌&&◌, true≢false}
use mathlib.Core.List.{List, ◌∷◌}
use Prim.Native.Nat.{ℕ, zero, suc}
use native.Mathlib.Omega.{arith}
use borrow.Author.Tests.{eqb-true, eq-eqb, ne_eqb, not-false}
use lib.Dec.{eqb, lit<}
use lib.ListN.{length, get_or}
use Rattle.algebra.proofs.BoolLaws.{both, and-true, and_first, and_second}
use Rattle.refusal.specs.declared.Refusal.{Refusal}
use Rattle.refusal.specs.Answered.{number_of}
use Rattle.refusal.proofs.AnsweredLaws.{some}
use Rattle.refusal.specs.Outputs.{roomy, kept}
use Rattle.refusal.specs.Refusal.{first}
use Rattle.refusal.proofs.OutputLaws.{one, too_short, long-enough, roomy-zero, keeps, takes}
use Rattle.refusal.proofs.RefusalLaws.{positive, accepted, wrong-length, past-length}
use Rattle.card.specs.declared.Card.{Card}
use Rattle.card.specs.declared.Answer.{Answer}
use Rattle.card.specs.Checks.{checks, card_number}
use Rattle.card.specs.Zero.{zero_card, refused_with}
use Rattle.card.proofs.CheckLaws.{positive-checks}
use Rattle.card.proofs.StepLaws.{answer, settled, zeros-true}
use Rattle.codec.specs.Codec.{encode, decode, read_number, card_length, write_number, written}
use Rattle.codec.specs.Opened.{opened_number, opened_for, put_number, put_out}
use Rattle.codec.proofs.AnswerLaws.{number_short, number-long, read_number_lem}

-- ---- a record opened

-- a record that is too short, or whose zero byte is not 0, has a number
own-refused : (s : List ℕ) → eqb (length s) card_length && eqb (get_or s 11 0) 0 ≡ false → read_number s ≡ 0 → ⊥
unfolding read_number positive checks
own-refused s h e =
    let none = (accepted ((1, not (eqb (length s) card_length)) ∷ checks (eqb (get_or s 11 0) 0) (decode s)) (positive-checks (eqb (get_or s 11 0) 0) (decode s))).0 e in
    let l = not-false (eqb (length s) card_length) (none 0 (lit< tt)) in
    let m = sym (number-long s (eqb-true (length s) card_length l)) in
    true≢false (sym (and-true (eqb (length s) card_length) (eqb (get_or s 11 0) 0) l (zeros-true (eqb (get_or s 11 0) 0) (decode s) (sym m ∙ e))) ∙ h)

module _ (room : ℕ) (s : List ℕ) where
  refused-for : (n : ℕ) → n ≡ opened_number room s → (n ≡ 0 → ⊥) → refused_with n ≡ opened_for room s
  unfolding opened_for
  refused-for n e h = settled n (decode s) zero_card h ∙ ap (λ (k : ℕ). answer k (cond (eqb k 0) (decode s) zero_card)) e

  pub opened-short : (room ≡ card_length → ⊥) → refused_with 1 ≡ opened_for room s
  unfolding opened_number
  opened-short h = refused-for 1 (too_short card_length room (cond (eqb (length s) card_length && eqb (get_or s 11 0) 0) 0 (read_number s)) h) one

  -- the record's own number, where its length or its zero byte is wrong
  opened-own : (n : ℕ) → room ≡ card_length → eqb (length s) card_length && eqb (get_or s 11 0) 0 ≡ false → n ≡ read_number s → refused_with n ≡ opened_for room s
  unfolding opened_number
  opened-own n l f r = refused-for n (r ∙ rw f (long-enough card_length room (read_number s) l)) (λ e. own-refused s f (sym r ∙ e))

  pub opened-length : room ≡ card_length → (length s ≡ card_length → ⊥) → refused_with 1 ≡ opened_for room s
  opened-length l h = opened-own 1 l (and_first (eqb (length s) card_length) (eqb (get_or s 11 0) 0) (ne_eqb (length s) card_length h)) (number_short s h)

  module _ (c : Card) (l : room ≡ card_length) (m : length s ≡ card_length) (f : c ≡ decode s) where
    pub opened-zeros : (n : ℕ) → (get_or s 11 0 ≡ 0 → ⊥) → n ≡ first (checks false c) → refused_with n ≡ opened_for room s
    opened-zeros n z h =
        let e = ne_eqb (get_or s 11 0) 0 z in
        opened-own n l (and_second (eqb (length s) card_length) (eqb (get_or s 11 0) 0) e) (read_number_lem s n false c m (sym e) f h)

    pub opened-taken : get_or s 11 0 ≡ 0 → answer 0 c ≡ opened_for room s
    unfolding opened_for opened_number
    opened-taken z = rw (eq-eqb (length s) card_length m, z, sym (long-enough card_length room 0 l), f)

second_fits : (b w : Bool) (r : ℕ) → (w ≡ false → r ≡ 0 → ⊥) → cond b (cond w 0 r) 1 ≡ 0 → w ≡ true
second_fits true true r h e = refl
second_fits true false r h e = absurd (h refl e)
second_fits false w r h e = absurd (one e)

-- what an opened record says: refused, its number, and accepted, its card
module _ (room : ℕ) (s : List ℕ) where
  pub number-opened : (e : Refusal) → refused_with (number_of e) ≡ opened_for room s → number_of e ≡ opened_number room s
  unfolding opened_for
  number-opened e q = ap (λ (x : Answer). x.number) q

  module _ (c : Card) (q : answer 0 c ≡ opened_for room s) where
    none : opened_number room s ≡ 0
    unfolding opened_for
    none = sym (ap (λ (x : Answer). x.number) q)

    pub card-opened : c ≡ decode s
    unfolding opened_for
    card-opened = ap (λ (x : Answer). x.card) q ∙ rw none

    fits : eqb (length s) card_length && eqb (get_or s 11 0) 0 ≡ true
    unfolding opened_number roomy
    fits = second_fits (eqb room card_length) (eqb (length s) card_length && eqb (get_or s 11 0) 0) (read_number s) (own-refused s) none

    -- the record's number is its card's
    pub number-held : read_number s ≡ card_number (decode s)
    unfolding card_number
    number-held =
        let p = both (eqb (length s) card_length) (eqb (get_or s 11 0) 0) fits in
        sym (number-long s (eqb-true (length s) card_length p.0)) ∙ ap (λ (b : Bool). first (checks b (decode s))) p.1

-- ---- an answer put

module _ (a : Answer) (out : List ℕ) where
  refused-put : (n : ℕ) → n ≡ put_number a (length out) → (n ≡ 0 → ⊥) → (n ≡ put_number a (length out)) × (out ≡ put_out a out)
  unfolding put_out
  refused-put n e h = (e, keeps n (put_number a (length out)) (encode a.card) out e h)

  pub put-short : (length out ≡ card_length → ⊥) → (1 ≡ put_number a (length out)) × (out ≡ put_out a out)
  unfolding put_number
  put-short h = refused-put 1 (too_short card_length (length out) a.number h) one

  module _ (l : length out ≡ card_length) where
    number_put : a.number ≡ put_number a (length out)
    unfolding put_number
    number_put = long-enough card_length (length out) a.number l

    pub put-kept : (a.number ≡ 0 → ⊥) → (a.number ≡ put_number a (length out)) × (out ≡ put_out a out)
    put-kept h = refused-put a.number number_put h

    pub put-taken : (w : List ℕ) → a.number ≡ 0 → w ≡ encode a.card → (0 ≡ put_number a (length out)) × (w ≡ put_out a out)
    unfolding put_out
    put-taken w z e = (sym z ∙ number_put, e ∙ takes a.number (put_number a (length out)) (encode a.card) out number_put z)

-- an answer that holds `new` where its number is 0: what it held else is not written
pub put-settled : (n : ℕ) (new old : Card) (out : List ℕ) → put_out (answer n (cond (eqb n 0) new old)) out ≡ kept (roomy card_length (length out) n) (encode new) out
unfolding put_out put_number
put-settled zero new old out = refl
put-settled (suc n) new old out =
    let m : ℕ = roomy card_length (length out) (suc n) in
    sym (keeps m m (encode (cond (eqb (suc n) 0) new old)) out refl some) ∙ keeps m m (encode new) out refl some
  where
    some : roomy card_length (length out) (suc n) ≡ 0 → ⊥
    some e = let w = (roomy-zero card_length (length out) (suc n) e).1 in omega (arith, w)

-- ---- a card written: the buffer's length, then the card's own number

-- a card is not accepted with a zero byte that is not 0
pub never-checked : (c : Card) → first (checks false c) ≡ 0 → ⊥
never-checked c e = true≢false (sym (zeros-true false c e))

module _ (c : Card) (out : List ℕ) where
  refused-write : (n : ℕ) → n ≡ write_number c (length out) → (n ≡ 0 → ⊥) → (n ≡ write_number c (length out)) × (out ≡ written c out)
  unfolding written
  refused-write n e h = (e, keeps n (write_number c (length out)) (encode c) out e h)

  pub write-short : (length out ≡ card_length → ⊥) → (1 ≡ write_number c (length out)) × (out ≡ written c out)
  unfolding write_number
  write-short h = refused-write 1 (wrong-length (length out) card_length (checks true c) h) one

  module _ (l : length out ≡ card_length) where
    own : card_number c ≡ write_number c (length out)
    unfolding write_number card_number
    own = sym (past-length (length out) card_length (checks true c) l)

    pub write-kept : (e : Refusal) → number_of e ≡ card_number c → (number_of e ≡ write_number c (length out)) × (out ≡ written c out)
    write-kept e h = refused-write (number_of e) (h ∙ own) (some e)

    pub write-taken : (w : List ℕ) → 0 ≡ card_number c → w ≡ encode c → (0 ≡ write_number c (length out)) × (w ≡ written c out)
    unfolding written
    write-taken w z e = (z ∙ own, e ∙ takes 0 (write_number c (length out)) (encode c) out (z ∙ own) refl)

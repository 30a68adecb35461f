-- A card that is refused is the first; one that is not is passed by.
use Rattle.std.proofs.Common.{rules, ◌≡◌, refl, sym, ap, ◌∙◌, List, [], ℕ, ◌+◌, ◌-◌, ◌/◌, ◌%◌, ◌<◌, ◌≤◌, length, get_or, Err}
use native.Mathlib.Omega.{arith}
use borrow.Author.Tests.{eq-eqb, ne_eqb}
use Rattle.std.specs.Simd.{first_chunks}
use Rattle.algebra.proofs.ChunkLaws.{chunk-at, chunk-count}
use Rattle.refusal.specs.declared.Refusal.TheVariants as Is
use Rattle.refusal.specs.Answered as A
use Rattle.refusal.specs.FirstBad.{first_bad}
use Rattle.refusal.proofs.AnsweredLaws.{some}
use Rattle.refusal.proofs.FirstBadLaws.{bad-end, bad-on, bad-here}
use Rattle.codec.specs.Codec.{card_length, read_number}
use Rattle.catalogue.specs.Whole.{number_at, check_answer}
use Rattle.catalogue.proofs.check.Goals as goal

cut : (s : List ℕ) → (length s % card_length ≡ 0 → ⊥) → (14, 0) ≡ check_answer s
unfolding check_answer
cut s h = rw (ne_eqb (length s % card_length) 0 h) refl

module _ (s : List ℕ) (cards : List (List ℕ)) (w : length s % card_length ≡ 0) (q : cards ≡ first_chunks card_length (length s / card_length) s) where
  count : length cards ≡ length s / card_length
  count = ap length q ∙ chunk-count card_length (length s / card_length) s

  whole : first_bad (number_at s) 0 (length cards) ≡ check_answer s
  unfolding check_answer
  whole = rw (eq-eqb (length s % card_length) 0 w, count) refl

  -- the number of card i
  card-is : (i n : ℕ) → i < length cards → n ≡ read_number (get_or cards i []) → n ≡ number_at s i
  unfolding number_at
  card-is i n h e =
      let l : i < length s / card_length = omega (arith, count, h) in
      e ∙ ap (λ (r : List ℕ). read_number r) (ap (λ (r : List (List ℕ)). get_or r i []) q ∙ chunk-at card_length (length s / card_length) i s l)

pub returns-in_err-cards : goal.returns-in_err-cards
returns-in_err-cards c =
    let r : c.from_residual.result ≡ Err (record { refusal = Is.CatalogueLength; place = 0 }) = search rules in
    let n : length c.args.catalogue.now % card_length ≡ 0 → ⊥ = search rules in
    ap A.counted r ∙ cut c.args.catalogue.now n

pub loop-place-init : goal.loop-place-init
loop-place-init c = ap (λ (n : ℕ). first_bad (number_at c.args.catalogue.now) 0 n) (omega arith)

pub returns-in-Err : goal.returns-in-Err
returns-in-Err c =
    let s = c.args.catalogue.now in
    let w : length s % card_length ≡ 0 = search rules in
    let q : c.in_ok-cards.cards.now ≡ first_chunks card_length (length s / card_length) s = search rules in
    let n = length c.in_ok-cards.cards.now in
    let i = c.loop-place.place in
    let l : i < n = c.loop-place-test.true in
    let e = card-is s c.in_ok-cards.cards.now w q i (A.number_of c.in-Err.refusal) l c.in-Err.ensures in
    bad-here (number_at s) i (n - i) (n - (i + 1)) (A.number_of c.in-Err.refusal) (omega arith) e (some c.in-Err.refusal)
    ∙ c.loop-place.invariant ∙ whole s c.in_ok-cards.cards.now w q

pub loop-place-preserved : goal.loop-place-preserved
loop-place-preserved c =
    let s = c.args.catalogue.now in
    let w : length s % card_length ≡ 0 = search rules in
    let q : c.in_ok-cards.cards.now ≡ first_chunks card_length (length s / card_length) s = search rules in
    let n = length c.in_ok-cards.cards.now in
    let i = c.loop-place.place in
    let l : i < n = c.loop-place-test.true in
    let e = card-is s c.in_ok-cards.cards.now w q i 0 l (search rules) in
    sym (bad-on (number_at s) i (n - i) (n - (i + 1)) (omega arith) (sym e)) ∙ c.loop-place.invariant

pub returns : goal.returns
returns c =
    let s = c.args.catalogue.now in
    let w : length s % card_length ≡ 0 = search rules in
    let q : c.in_ok-cards.cards.now ≡ first_chunks card_length (length s / card_length) s = search rules in
    let n = length c.in_ok-cards.cards.now in
    let i = c.loop-place.place in
    let l : n ≤ i = c.loop-place-test.false in
    let k : i ≤ n = c.loop-place.auto.place-end in
    ap (λ (j : ℕ). (0, j)) (omega arith) ∙ bad-end (number_at s) i (n - i) (omega arith) ∙ c.loop-place.invariant ∙ whole s c.in_ok-cards.cards.now w q

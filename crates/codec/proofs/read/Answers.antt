-- The length, then what the bytes hold.
use Rattle.std.proofs.Common.{rules, ◌≡◌, ◌∙◌, ap, List, ℕ, length, get_or, Ok, Err}
use Rattle.std.specs.Prelude.{eqb}
use Rattle.refusal.specs.declared.Refusal.{Refusal}
use Rattle.refusal.specs.declared.Refusal.TheVariants as Is
use Rattle.refusal.specs.Answered.{number_of}
use Rattle.refusal.specs.Refusal.{first}
use Rattle.refusal.proofs.AnsweredLaws.{some}
use Rattle.card.specs.declared.Card.{Card}
use Rattle.card.specs.Checks.{checks}
use Rattle.card.specs.Zero as Z
use Rattle.codec.specs.Codec as C
use Rattle.codec.specs.Codec.{card_length, decode, read_number}
use Rattle.codec.proofs.AnswerLaws.{read_short, read_number_lem, read-refused, read_taken}
use Rattle.codec.proofs.read.Goals as goal

module _ (s r : List ℕ) (l : length s ≡ card_length) (q : r ≡ s) (c : Card) (d : c ≡ decode r) where
  number_is : (n : ℕ) → n ≡ first (checks (eqb (get_or r 11 0) 0) c) → n ≡ read_number s
  number_is n h = read_number_lem s n (eqb (get_or r 11 0) 0) c l (ap (λ (t : List ℕ). eqb (get_or t 11 0) 0) q) (d ∙ ap decode q) h

  refused : (e : Refusal) → number_of e ≡ first (checks (eqb (get_or r 11 0) 0) c) → Z.answer_of (Err e) ≡ C.read_card s
  refused e h = read-refused s (number_of e) (number_is (number_of e) h) (some e)

  taken : 0 ≡ first (checks (eqb (get_or r 11 0) 0) c) → Z.answer_of (Ok c) ≡ C.read_card s
  taken h = read_taken s c (d ∙ ap decode q) (number_is 0 h)

pub returns-in_err-record : goal.returns-in_err-record
returns-in_err-record c =
    let r : c.from_residual.result ≡ Err Is.Length = search rules in
    let n : length c.args.s.now ≡ card_length → ⊥ = search rules in
    ap Z.answer_of r ∙ read_short c.args.s.now n

pub returns-in_err-check_with : goal.returns-in_err-check_with
returns-in_err-check_with c =
    let e = c.in_err-check_with.field-0.0 in
    let w : c.from_residual-in_err-check_with.result ≡ Err e = search rules in
    let r : c.in_ok-record.record.now ≡ c.args.s.now = search rules in
    let l : length c.args.s.now ≡ card_length = search rules in
    ap Z.answer_of w ∙ refused c.args.s.now c.in_ok-record.record.now l r c.decode-c.result c.decode-c.ensures e c.in_err-check_with.ensures

pub returns : goal.returns
returns c =
    let r : c.in_ok-record.record.now ≡ c.args.s.now = search rules in
    let l : length c.args.s.now ≡ card_length = search rules in
    taken c.args.s.now c.in_ok-record.record.now l r c.decode-c.result c.decode-c.ensures c.in_ok-check_with.ensures

-- The length, then what the record holds.
use Rattle.std.proofs.Common.{rules, ◌≡◌, sym, ◌∙◌, ap, List, ℕ, Bool, T, length, Ok, Err}
use mathlib.Core.Path.{subst⁻¹}
use Rattle.refusal.specs.declared.Refusal.{Refusal}
use Rattle.refusal.specs.declared.Refusal.TheVariants as Is
use Rattle.refusal.specs.Answered.{number_of}
use Rattle.refusal.specs.Refusal.{first}
use Rattle.refusal.proofs.AnsweredLaws.{some}
use Rattle.mark.specs.Mark as M
use Rattle.mark.proofs.MarkLaws.{accepted-within}
use Rattle.mark.proofs.SizeLaws.{within-sized}
use Rattle.card.specs.declared.Card.{Card}
use Rattle.card.specs.Zero as Z
use Rattle.field.specs.declared.record.Opened.{Opened}
use Rattle.field.specs.Field as F
use Rattle.field.specs.Field.{field_length, zero_bytes, opened_of, opened_checks, field_number, expanded_of}
use Rattle.field.proofs.AnswerLaws.{expand-short, expand-number, expand-refused, expand-taken}
use Rattle.field.proofs.FieldLaws.{Held, field-accepted}
use Rattle.field.proofs.expand.Goals as goal

module _ (s r : List ℕ) (l : length s ≡ field_length) (q : r ≡ s) (o : Opened) (p : o ≡ opened_of r) (z : Bool) (y : z ≡ zero_bytes r) where
  number_is : (n : ℕ) → n ≡ first (opened_checks z o) → n ≡ field_number s
  number_is n h = expand-number s n z o l (y ∙ ap zero_bytes q) (p ∙ ap opened_of q) h

  refused : (e : Refusal) → number_of e ≡ first (opened_checks z o) → Z.answer_of (Err e) ≡ F.expand_card s
  refused e h = expand-refused s (number_of e) (number_is (number_of e) h) (some e)

  module _ (h : 0 ≡ first (opened_checks z o)) where
    held : Held o
    held = subst⁻¹ Held (p ∙ ap opened_of q) (field-accepted s (sym (number_is 0 h))).held

    taken : (c : Card) → c ≡ expanded_of o → Z.answer_of (Ok c) ≡ F.expand_card s
    taken c d = expand-taken s c (d ∙ ap expanded_of (p ∙ ap opened_of q)) (number_is 0 h)

    mark-fits : T (M.sized 6400000 o.mark)
    mark-fits = within-sized (accepted-within o.mark held.mark)

    offset-fits : T (M.sized 10000000 o.offset)
    offset-fits = within-sized held.offset

    speed-fits : T (M.sized 5000 o.speed)
    speed-fits = within-sized held.speed

pub returns-in_err-bytes : goal.returns-in_err-bytes
returns-in_err-bytes c =
    let r : c.from_residual.result ≡ Err Is.Length = search rules in
    let n : length c.args.s.now ≡ field_length → ⊥ = search rules in
    ap Z.answer_of r ∙ expand-short c.args.s.now n

pub returns-in_err-check_opened : goal.returns-in_err-check_opened
returns-in_err-check_opened c =
    let e = c.in_err-check_opened.field-0.0 in
    let w : c.from_residual-in_err-check_opened.result ≡ Err e = search rules in
    let r : c.in_ok-bytes.bytes.now ≡ c.args.s.now = search rules in
    let l : length c.args.s.now ≡ field_length = search rules in
    ap Z.answer_of w ∙ refused c.args.s.now c.in_ok-bytes.bytes.now l r c.open-opened.result c.open-opened.ensures c.zero_bytes.result c.zero_bytes.ensures e c.in_err-check_opened.ensures

pub expanded-requires-clause-t : goal.expanded-requires-clause-t
expanded-requires-clause-t c =
    let r : c.in_ok-bytes.bytes.now ≡ c.args.s.now = search rules in
    let l : length c.args.s.now ≡ field_length = search rules in
    mark-fits c.args.s.now c.in_ok-bytes.bytes.now l r c.open-opened.result c.open-opened.ensures c.zero_bytes.result c.zero_bytes.ensures c.in_ok-check_opened.ensures

pub expanded-requires-clause-t_2 : goal.expanded-requires-clause-t_2
expanded-requires-clause-t_2 c =
    let r : c.in_ok-bytes.bytes.now ≡ c.args.s.now = search rules in
    let l : length c.args.s.now ≡ field_length = search rules in
    offset-fits c.args.s.now c.in_ok-bytes.bytes.now l r c.open-opened.result c.open-opened.ensures c.zero_bytes.result c.zero_bytes.ensures c.in_ok-check_opened.ensures

pub expanded-requires-clause-t_3 : goal.expanded-requires-clause-t_3
expanded-requires-clause-t_3 c =
    let r : c.in_ok-bytes.bytes.now ≡ c.args.s.now = search rules in
    let l : length c.args.s.now ≡ field_length = search rules in
    speed-fits c.args.s.now c.in_ok-bytes.bytes.now l r c.open-opened.result c.open-opened.ensures c.zero_bytes.result c.zero_bytes.ensures c.in_ok-check_opened.ensures

pub returns : goal.returns
returns c =
    let r : c.in_ok-bytes.bytes.now ≡ c.args.s.now = search rules in
    let l : length c.args.s.now ≡ field_length = search rules in
    taken c.args.s.now c.in_ok-bytes.bytes.now l r c.open-opened.result c.open-opened.ensures c.zero_bytes.result c.zero_bytes.ensures c.in_ok-check_opened.ensures c.expanded.result c.expanded.ensures

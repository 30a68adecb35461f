-- The lengths, then the zero byte.
use Rattle.std.proofs.Common.{rules, ◌≡◌, sym, ◌∙◌, ap, length, get_or, Err}
use Rattle.refusal.specs.declared.Refusal.TheVariants as Is
use Rattle.refusal.specs.Answered.{number_of}
use Rattle.card.specs.Zero as Z
use Rattle.codec.specs.Codec.{card_length, decode}
use Rattle.codec.proofs.OpenedLaws.{opened-short, opened-length, opened-zeros, opened-taken, never-checked}
use Rattle.codec.proofs.opened.Goals as goal

pub returns-then-room-ne-CARD_LENGTH : goal.returns-then-room-ne-CARD_LENGTH
returns-then-room-ne-CARD_LENGTH c = let h : c.args.room ≡ card_length → ⊥ = search rules in opened-short c.args.room c.args.s.now h

pub returns-in_err-record : goal.returns-in_err-record
returns-in_err-record c =
    let r : c.from_residual.result ≡ Err Is.Length = search rules in
    let n : length c.args.s.now ≡ card_length → ⊥ = search rules in
    let m : c.args.room ≡ card_length = search rules in
    ap Z.answer_of r ∙ opened-length c.args.room c.args.s.now m n

pub returns-in_err-check_with : goal.returns-in_err-check_with
returns-in_err-check_with c =
    let e = c.in_err-check_with.field-0.0 in
    let w : c.from_residual-in_err-check_with.result ≡ Err e = search rules in
    let r : c.in_ok-record.record.now ≡ c.args.s.now = search rules in
    let l : length c.args.s.now ≡ card_length = search rules in
    let m : c.args.room ≡ card_length = search rules in
    let z : get_or c.args.s.now 11 0 ≡ 0 → ⊥ = rw (← r) c.if-record-ne0.true in
    ap Z.answer_of w ∙ opened-zeros c.args.room c.args.s.now c.decode-held.result m l (c.decode-held.ensures ∙ ap decode r) (number_of e) z c.in_err-check_with.ensures

pub returns-in_ok-check_with : goal.returns-in_ok-check_with
returns-in_ok-check_with c = absurd (never-checked c.decode-held.result (sym c.in_ok-check_with.ensures))

pub returns-else-record-ne0 : goal.returns-else-record-ne0
returns-else-record-ne0 c =
    let r : c.in_ok-record.record.now ≡ c.args.s.now = search rules in
    let l : length c.args.s.now ≡ card_length = search rules in
    let m : c.args.room ≡ card_length = search rules in
    let z : get_or c.args.s.now 11 0 ≡ 0 = rw (← r) c.if-record-ne0.false in
    opened-taken c.args.room c.args.s.now c.decode-held.result m l (c.decode-held.ensures ∙ ap decode r) z

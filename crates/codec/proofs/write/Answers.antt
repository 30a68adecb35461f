-- The buffer's length, then the card's own checks, then its bytes.
use Rattle.std.proofs.Common.{rules, ◌≡◌, ◌∙◌, ap, length, Err}
use Rattle.refusal.specs.Answered as A
use Rattle.refusal.specs.Answered.{number_of}
use Rattle.codec.specs.Codec.{card_length}
use Rattle.codec.proofs.OpenedLaws.{write-short, write-kept, write-taken}
use Rattle.codec.proofs.write.Goals as goal

pub returns-then-out-ne-CARD_LENGTH-clause-value : goal.returns-then-out-ne-CARD_LENGTH-clause-value
returns-then-out-ne-CARD_LENGTH-clause-value c = (write-short c.args.c c.args.out.now c.if-out-ne-CARD_LENGTH.true).0

pub returns-then-out-ne-CARD_LENGTH-clause-out_after : goal.returns-then-out-ne-CARD_LENGTH-clause-out_after
returns-then-out-ne-CARD_LENGTH-clause-out_after c = (write-short c.args.c c.args.out.now c.if-out-ne-CARD_LENGTH.true).1

pub returns-in_err-check-clause-value : goal.returns-in_err-check-clause-value
returns-in_err-check-clause-value c =
    let e = c.in_err-check.field-0.0 in
    let w : c.from_residual.result ≡ Err e = search rules in
    let l : length c.args.out.now ≡ card_length = search rules in
    ap A.number w ∙ (write-kept c.args.c c.args.out.now l e c.in_err-check.ensures).0

pub returns-in_err-check-clause-out_after : goal.returns-in_err-check-clause-out_after
returns-in_err-check-clause-out_after c =
    let l : length c.args.out.now ≡ card_length = search rules in
    (write-kept c.args.c c.args.out.now l c.in_err-check.field-0.0 c.in_err-check.ensures).1

pub returns-clause-value : goal.returns-clause-value
returns-clause-value c =
    let l : length c.args.out.now ≡ card_length = search rules in
    (write-taken c.args.c c.args.out.now l c.encode.new.out c.in_ok-check.ensures c.encode.ensures).0

pub returns-clause-out_after : goal.returns-clause-out_after
returns-clause-out_after c =
    let l : length c.args.out.now ≡ card_length = search rules in
    (write-taken c.args.c c.args.out.now l c.encode.new.out c.in_ok-check.ensures c.encode.ensures).1

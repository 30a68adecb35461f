-- The buffer's length, then the answer's number, then its card's bytes.
use Rattle.std.proofs.Common.{rules, ◌≡◌, ◌∙◌, length}
use Rattle.codec.specs.Codec.{card_length}
use Rattle.codec.proofs.OpenedLaws.{put-short, put-kept, put-taken}
use Rattle.codec.proofs.put.Goals as goal

pub returns-then-out-ne-CARD_LENGTH-clause-value : goal.returns-then-out-ne-CARD_LENGTH-clause-value
returns-then-out-ne-CARD_LENGTH-clause-value c = c.number.ensures ∙ (put-short c.args.a c.args.out.now c.if-out-ne-CARD_LENGTH.true).0

pub returns-then-out-ne-CARD_LENGTH-clause-out_after : goal.returns-then-out-ne-CARD_LENGTH-clause-out_after
returns-then-out-ne-CARD_LENGTH-clause-out_after c = (put-short c.args.a c.args.out.now c.if-out-ne-CARD_LENGTH.true).1

pub returns-then-a-ne0-clause-value : goal.returns-then-a-ne0-clause-value
returns-then-a-ne0-clause-value c =
    let l : length c.args.out.now ≡ card_length = search rules in
    let n : c.args.a.number ≡ 0 → ⊥ = search rules in
    (put-kept c.args.a c.args.out.now l n).0

pub returns-then-a-ne0-clause-out_after : goal.returns-then-a-ne0-clause-out_after
returns-then-a-ne0-clause-out_after c =
    let l : length c.args.out.now ≡ card_length = search rules in
    let n : c.args.a.number ≡ 0 → ⊥ = search rules in
    (put-kept c.args.a c.args.out.now l n).1

pub returns-clause-value : goal.returns-clause-value
returns-clause-value c =
    let l : length c.args.out.now ≡ card_length = search rules in
    let n : c.args.a.number ≡ 0 = search rules in
    (put-taken c.args.a c.args.out.now l c.encode.new.out n c.encode.ensures).0

pub returns-clause-out_after : goal.returns-clause-out_after
returns-clause-out_after c =
    let l : length c.args.out.now ≡ card_length = search rules in
    let n : c.args.a.number ≡ 0 = search rules in
    (put-taken c.args.a c.args.out.now l c.encode.new.out n c.encode.ensures).1

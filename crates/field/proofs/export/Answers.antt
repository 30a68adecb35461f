-- The buffer's length, the card's checks, the solid tide, then the record's bytes.
use Rattle.std.proofs.Common.{rules, ◌≡◌, refl, ◌∙◌, ap, ℕ, length, Err}
use native.Mathlib.Omega.{arith}
use Rattle.refusal.specs.Answered as A
use Rattle.refusal.specs.Answered.{number_of}
use Rattle.refusal.proofs.AnsweredLaws.{some}
use Rattle.refusal.proofs.OutputLaws.{one}
use Rattle.head.specs.State.{state_of}
use Rattle.card.proofs.CheckLaws.{offset-refused, offset-taken}
use Rattle.field.specs.Field.{field_length}
use Rattle.field.proofs.AnswerLaws.{export-short, export-refused, export-tide, export-taken, kept_field, put-field}
use Rattle.field.proofs.export.Goals as goal

twelve : ◌≡◌ {A = ℕ} 12 0 → ⊥
twelve e = omega arith

pub returns-then-out-ne-FIELD_LENGTH-clause-value : goal.returns-then-out-ne-FIELD_LENGTH-clause-value
returns-then-out-ne-FIELD_LENGTH-clause-value c = export-short c.args.c (length c.args.out.now) c.if-out-ne-FIELD_LENGTH.true

pub returns-then-out-ne-FIELD_LENGTH-clause-out_after : goal.returns-then-out-ne-FIELD_LENGTH-clause-out_after
returns-then-out-ne-FIELD_LENGTH-clause-out_after c = (kept_field c.args.c c.args.out.now 1 (export-short c.args.c (length c.args.out.now) c.if-out-ne-FIELD_LENGTH.true) one).1

pub returns-in_err-away-clause-value : goal.returns-in_err-away-clause-value
returns-in_err-away-clause-value c =
    let e = c.in_err-away.field-0.0 in
    let r : c.from_residual.result ≡ Err e = search rules in
    let l : length c.args.out.now ≡ field_length = search rules in
    ap A.number r ∙ export-refused c.args.c (length c.args.out.now) (number_of e) l (offset-refused c.args.c e c.in_err-away.ensures) (some e)

pub returns-in_err-away-clause-out_after : goal.returns-in_err-away-clause-out_after
returns-in_err-away-clause-out_after c =
    let e = c.in_err-away.field-0.0 in
    let l : length c.args.out.now ≡ field_length = search rules in
    (kept_field c.args.c c.args.out.now (number_of e) (export-refused c.args.c (length c.args.out.now) (number_of e) l (offset-refused c.args.c e c.in_err-away.ensures) (some e)) (some e)).1

pub returns-then-state_of-eq2-clause-value : goal.returns-then-state_of-eq2-clause-value
returns-then-state_of-eq2-clause-value c =
    let l : length c.args.out.now ≡ field_length = search rules in
    let t : state_of c.args.c.tide ≡ 2 = search rules in
    export-tide c.args.c (length c.args.out.now) 0 l (offset-taken c.args.c c.in_ok-away.away c.in_ok-away.ensures).0 refl t

pub returns-then-state_of-eq2-clause-out_after : goal.returns-then-state_of-eq2-clause-out_after
returns-then-state_of-eq2-clause-out_after c =
    let l : length c.args.out.now ≡ field_length = search rules in
    let t : state_of c.args.c.tide ≡ 2 = search rules in
    (kept_field c.args.c c.args.out.now 12 (export-tide c.args.c (length c.args.out.now) 0 l (offset-taken c.args.c c.in_ok-away.away c.in_ok-away.ensures).0 refl t) twelve).1

pub encode_field-requires-clause-away_value : goal.encode_field-requires-clause-away_value
encode_field-requires-clause-away_value c = (offset-taken c.args.c c.in_ok-away.away c.in_ok-away.ensures).1

pub returns-clause-value : goal.returns-clause-value
returns-clause-value c =
    let l : length c.args.out.now ≡ field_length = search rules in
    let t : state_of c.args.c.tide ≡ 2 → ⊥ = search rules in
    export-taken c.args.c (length c.args.out.now) 0 l (offset-taken c.args.c c.in_ok-away.away c.in_ok-away.ensures).0 refl t

pub returns-clause-out_after : goal.returns-clause-out_after
returns-clause-out_after c =
    let l : length c.args.out.now ≡ field_length = search rules in
    let t : state_of c.args.c.tide ≡ 2 → ⊥ = search rules in
    (put-field c.args.c c.args.out.now c.encode_field.new.out (export-taken c.args.c (length c.args.out.now) 0 l (offset-taken c.args.c c.in_ok-away.away c.in_ok-away.ensures).0 refl t) c.encode_field.ensures).1

-- The field's length, the card, then the exporter.
use Rattle.std.proofs.Common.{rules, ◌≡◌, ◌∙◌, ap, length, Err}
use Rattle.refusal.specs.Answered as A
use Rattle.field.specs.Field.{field_length}
use Rattle.netvjesha.proofs.FaceLaws.{export-short, export-unread, export-called}
use Rattle.netvjesha.proofs.put_edition.Goals as goal

pub returns-then-not-fits-clause-value : goal.returns-then-not-fits-clause-value
returns-then-not-fits-clause-value c = (export-short c.args.s.now c.args.edition.now (search rules)).0

pub returns-then-not-fits-clause-edition_after : goal.returns-then-not-fits-clause-edition_after
returns-then-not-fits-clause-edition_after c = (export-short c.args.s.now c.args.edition.now (search rules)).1

pub returns-in_err-card-clause-value : goal.returns-in_err-card-clause-value
returns-in_err-card-clause-value c =
    let e = c.in_err-card.field-0.0 in
    let r : c.from_residual.result ≡ Err e = search rules in
    let l : length c.args.edition.now ≡ field_length = search rules in
    ap A.number r ∙ (export-unread c.args.s.now c.args.edition.now e l c.in_err-card.ensures).0

pub returns-in_err-card-clause-edition_after : goal.returns-in_err-card-clause-edition_after
returns-in_err-card-clause-edition_after c =
    let l : length c.args.edition.now ≡ field_length = search rules in
    (export-unread c.args.s.now c.args.edition.now c.in_err-card.field-0.0 l c.in_err-card.ensures).1

pub returns-clause-value : goal.returns-clause-value
returns-clause-value c =
    let l : length c.args.edition.now ≡ field_length = search rules in
    (export-called c.args.s.now c.args.edition.now c.in_ok-card.card (A.number c.export.result) c.export.new.out l c.in_ok-card.ensures c.export.ensures.value c.export.ensures.out_after).0

pub returns-clause-edition_after : goal.returns-clause-edition_after
returns-clause-edition_after c =
    let l : length c.args.edition.now ≡ field_length = search rules in
    (export-called c.args.s.now c.args.edition.now c.in_ok-card.card (A.number c.export.result) c.export.new.out l c.in_ok-card.ensures c.export.ensures.value c.export.ensures.out_after).1

-- A record that is not opened leaves the buffer; else the card's own answer is put.
use Rattle.std.proofs.Common.{◌∙◌}
use Rattle.records.proofs.BytesLaws.{bytes-unopened, bytes-stepped}
use Rattle.records.proofs.called.Goals as goal

pub returns-in-Ok : goal.returns-in-Ok
returns-in-Ok g c = λ k own.
    bytes-stepped c.args.s.now c.args.out.now c.in-Ok.card c.in-Ok.ensures k c.call.result (own _ _ c.call.ensures) c.put.result c.put.new.out (c.put.ensures.value, c.put.ensures.out_after)

pub returns-in-Err : goal.returns-in-Err
returns-in-Err g c = λ k own.
    let h = bytes-unopened c.args.s.now c.args.out.now c.in-Err.refusal c.in-Err.ensures k in
    (c.number.ensures ∙ h.0, h.1)

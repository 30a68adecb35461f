-- The output's length, the card, then three doubles.
use Rattle.std.proofs.Common.{rules, ◌≡◌, ◌∙◌, ap, [], ◌∷◌, Err}
use Rattle.refusal.specs.Answered as A
use Rattle.netvjesha.proofs.TripleLaws.{metres-short, metres-unread, metres-never, metres-called}
use Rattle.netvjesha.proofs.put_metres.Goals as goal

pub returns-then-out-ne3-clause-value : goal.returns-then-out-ne3-clause-value
returns-then-out-ne3-clause-value c = (metres-short c.args.s.now c.args.out.now c.if-out-ne3.true).0

pub returns-then-out-ne3-clause-out_after : goal.returns-then-out-ne3-clause-out_after
returns-then-out-ne3-clause-out_after c = (metres-short c.args.s.now c.args.out.now c.if-out-ne3.true).1

pub returns-in_err-read-clause-value : goal.returns-in_err-read-clause-value
returns-in_err-read-clause-value c =
    let e = c.in_err-read.field-0.0 in
    let r : c.from_residual.result ≡ Err e = search rules in
    ap A.number r ∙ (metres-unread c.args.s.now c.args.out.now e (search rules) c.in_err-read.ensures).0

pub returns-in_err-read-clause-out_after : goal.returns-in_err-read-clause-out_after
returns-in_err-read-clause-out_after c = (metres-unread c.args.s.now c.args.out.now c.in_err-read.field-0.0 (search rules) c.in_err-read.ensures).1

pub returns-in_err-m-clause-value : goal.returns-in_err-m-clause-value
returns-in_err-m-clause-value c = absurd (metres-never c.args.s.now c.args.out.now c.in_ok-read.field-0 c.in_ok-read.ensures c.in_err-m.field-0.0 c.in_err-m.ensures)

pub returns-in_err-m-clause-out_after : goal.returns-in_err-m-clause-out_after
returns-in_err-m-clause-out_after c = absurd (metres-never c.args.s.now c.args.out.now c.in_ok-read.field-0 c.in_ok-read.ensures c.in_err-m.field-0.0 c.in_err-m.ensures)

pub returns-clause-value : goal.returns-clause-value
returns-clause-value c = (metres-called c.args.s.now c.args.out.now c.in_ok-read.field-0 c.in_ok-read.ensures c.in_ok-m.m (search rules) c.in_ok-m.ensures).0

pub returns-clause-out_after : goal.returns-clause-out_after
returns-clause-out_after c =
    let e : c.copy_from_slice.new.self ≡ c.in_ok-m.m.x ∷ c.in_ok-m.m.y ∷ c.in_ok-m.m.z ∷ [] = search rules in
    e ∙ (metres-called c.args.s.now c.args.out.now c.in_ok-read.field-0 c.in_ok-read.ensures c.in_ok-m.m (search rules) c.in_ok-m.ensures).1

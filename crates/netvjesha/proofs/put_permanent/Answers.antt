-- The output's length, the mark, then three numbers.
use Rattle.std.proofs.Common.{rules, ◌≡◌, ◌∙◌, ap, [], ◌∷◌, Err}
use Rattle.refusal.specs.Answered as A
use Rattle.netvjesha.proofs.TripleLaws.{permanent-short, permanent-unmarked, permanent-called}
use Rattle.netvjesha.proofs.put_permanent.Goals as goal

pub returns-then-out-ne3-clause-value : goal.returns-then-out-ne3-clause-value
returns-then-out-ne3-clause-value c = (permanent-short c.args.m c.args.out.now c.if-out-ne3.true).0

pub returns-then-out-ne3-clause-out_after : goal.returns-then-out-ne3-clause-out_after
returns-then-out-ne3-clause-out_after c = (permanent-short c.args.m c.args.out.now c.if-out-ne3.true).1

pub returns-in_err-d-clause-value : goal.returns-in_err-d-clause-value
returns-in_err-d-clause-value c =
    let e = c.in_err-d.field-0.0 in
    let r : c.from_residual.result ≡ Err e = search rules in
    ap A.number r ∙ (permanent-unmarked c.args.m c.args.out.now e (search rules) c.in_err-d.ensures).0

pub returns-in_err-d-clause-out_after : goal.returns-in_err-d-clause-out_after
returns-in_err-d-clause-out_after c = (permanent-unmarked c.args.m c.args.out.now c.in_err-d.field-0.0 (search rules) c.in_err-d.ensures).1

pub returns-clause-value : goal.returns-clause-value
returns-clause-value c = (permanent-called c.args.m c.args.out.now c.in_ok-d.d (search rules) c.in_ok-d.ensures).0

pub returns-clause-out_after : goal.returns-clause-out_after
returns-clause-out_after c =
    let e : c.copy_from_slice.new.self ≡ c.in_ok-d.d.x ∷ c.in_ok-d.d.y ∷ c.in_ok-d.d.z ∷ [] = search rules in
    e ∙ (permanent-called c.args.m c.args.out.now c.in_ok-d.d (search rules) c.in_ok-d.ensures).1

-- The refusal of a Moon and a Sun is that of what is seen of them.
use Rattle.std.proofs.Common.{rules, ◌≡◌, ap, ◌∙◌, sym, Err}
use Rattle.refusal.specs.Answered.{number}
use Rattle.tides.proofs.BodyLaws.{refused, sighted}
use Rattle.tides.proofs.check_bodies.Goals as goal

pub returns-in_err-see : goal.returns-in_err-see
returns-in_err-see c =
    let e : c.from_residual.result ≡ Err c.in_err-see.field-0.0 = search rules in
    ap number e ∙ refused c.args.moon c.args.sun c.in_err-see.field-0.0 c.in_err-see.ensures

pub returns : goal.returns
returns c = sym (sighted c.args.moon c.args.sun c.in_ok-see.field-0.0 c.in_ok-see.field-0.1 c.in_ok-see.ensures).number

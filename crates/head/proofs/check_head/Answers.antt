-- At each test the table's first condition that is met gives the whole answer.
use Rattle.std.proofs.Common.{rules, ◌≡◌, sym, ◌∙◌, ap, true, false, Err}
use Rattle.refusal.specs.declared.Refusal.TheVariants as Is
use Rattle.refusal.specs.Refusal.{first}
use Rattle.mark.specs.Mark.{mark_number}
use Rattle.frames.specs.Frame.{known_frame}
use Rattle.frames.specs.Known.{code_of}
use Rattle.frames.proofs.KnownLaws.{code-known}
use Rattle.head.specs.Head.{site_shape, epoch_fits}
use Rattle.head.proofs.check_head.Goals as goal

pub returns-then-not-is_site : goal.returns-then-not-is_site
unfolding first
returns-then-not-is_site c =
    let s : site_shape c.args.site ≡ false = search rules in
    rw s

pub returns-in_err-try_from : goal.returns-in_err-try_from
unfolding first
returns-in_err-try_from c =
    let s : site_shape c.args.site ≡ true = search rules in
    let r : c.from_residual.result ≡ Err Is.Frame = search rules in
    let u : known_frame c.args.frame ≡ false = search rules in
    rw (r, s, u)

pub returns-then-not-fits : goal.returns-then-not-fits
unfolding first
returns-then-not-fits c =
    let s : site_shape c.args.site ≡ true = search rules in
    let k : code_of c.in_ok-try_from.field-0 ≡ c.args.frame = search rules in
    let u : known_frame c.args.frame ≡ true = sym (ap known_frame k) ∙ code-known c.in_ok-try_from.field-0 in
    let f : c.args.fits ≡ false = search rules in
    rw (s, u, f)

pub returns-then-not-epoch_fits : goal.returns-then-not-epoch_fits
unfolding first
returns-then-not-epoch_fits c =
    let s : site_shape c.args.site ≡ true = search rules in
    let k : code_of c.in_ok-try_from.field-0 ≡ c.args.frame = search rules in
    let u : known_frame c.args.frame ≡ true = sym (ap known_frame k) ∙ code-known c.in_ok-try_from.field-0 in
    let f : c.args.fits ≡ true = search rules in
    let e : epoch_fits c.args.epoch ≡ false = search rules in
    rw (s, u, f, e)

pub returns : goal.returns
unfolding first mark_number
returns c =
    let s : site_shape c.args.site ≡ true = search rules in
    let k : code_of c.in_ok-try_from.field-0 ≡ c.args.frame = search rules in
    let u : known_frame c.args.frame ≡ true = sym (ap known_frame k) ∙ code-known c.in_ok-try_from.field-0 in
    let f : c.args.fits ≡ true = search rules in
    let e : epoch_fits c.args.epoch ≡ true = search rules in
    rw (s, u, f, e) c.check_mark.ensures

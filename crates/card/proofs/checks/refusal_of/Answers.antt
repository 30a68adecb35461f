-- The shared checks, then 7 and 8, then those of what is stored: at each test the table's first condition that is met gives the whole answer.
use Rattle.std.proofs.Common.{rules, ◌≡◌, refl, sym, ◌∙◌, ap, Bool, true, false, ◌&&◌, ◌++◌, Err, lit<}
use Rattle.refusal.specs.declared.Refusal.{Refusal}
use Rattle.refusal.specs.Answered as A
use Rattle.refusal.specs.Answered.{number_of}
use Rattle.refusal.specs.Refusal.{Table, first}
use Rattle.refusal.proofs.AnsweredLaws.{above}
use Rattle.refusal.proofs.RefusalLaws.{positive, accepted, stays, onward}
use borrow.Author.Tests.{not-false}
use Rattle.mark.specs.Mark.{marked, sized}
use Rattle.mark.proofs.MarkLaws.{accepted-within}
use Rattle.mark.proofs.SizeLaws.{within-sized}
use Rattle.head.specs.Head.{head_checks}
use Rattle.card.specs.declared.Card.{Card}
use Rattle.card.specs.Checks.{tide_fits, velocity_fits, position_fits, vector_fits, body_checks, stored_checks, checks}
use Rattle.card.proofs.checks.refusal_of.Goals as goal

-- ---- the table in its parts

abbrev head : Bool → Card → Table
head z c = head_checks c.site c.frame (z && tide_fits c.tide c.solid) c.epoch c.mark

all-positive : (z : Bool) (c : Card) → positive (head z c) ≡ true
unfolding positive
all-positive z c = refl

module _ (z : Bool) (c : Card) where
  refused : (e : Refusal) → number_of e ≡ first (head z c) → number_of e ≡ first (checks z c)
  unfolding checks
  refused e q = q ∙ sym (stays (head z c) (body_checks c ++ stored_checks c) (above e _ q))

  module _ (h : 0 ≡ first (head z c)) where
    on-mark : marked c.mark ≡ true
    on-mark = not-false (marked c.mark) ((accepted (head z c) (all-positive z c)).0 (sym h) 4 (lit< tt))

    rest : first (body_checks c ++ stored_checks c) ≡ first (checks z c)
    unfolding checks
    rest = sym (onward (head z c) (body_checks c ++ stored_checks c) (all-positive z c) (sym h))

    fast : sized 500000 c.velocity ≡ false → 7 ≡ first (checks z c)
    unfolding velocity_fits first
    fast f = (let t : 7 ≡ first (body_checks c ++ stored_checks c) = rw f refl in t) ∙ rest

    far : sized 500000 c.velocity ≡ true → position_fits c.mark c.position ≡ false → 8 ≡ first (checks z c)
    unfolding velocity_fits first
    far f p = (let t : 8 ≡ first (body_checks c ++ stored_checks c) = rw (f, p) refl in t) ∙ rest

    long : sized 500000 c.velocity ≡ true → position_fits c.mark c.position ≡ true → sized 1461000000 c.solid ≡ false → 9 ≡ first (checks z c)
    unfolding velocity_fits vector_fits first
    long f p s = (let t : 9 ≡ first (body_checks c ++ stored_checks c) = rw (f, p, s) refl in t) ∙ rest

    none : sized 500000 c.velocity ≡ true → position_fits c.mark c.position ≡ true → sized 1461000000 c.solid ≡ true → 0 ≡ first (checks z c)
    unfolding velocity_fits vector_fits first
    none f p s = (let t : 0 ≡ first (body_checks c ++ stored_checks c) = rw (f, p, s) refl in t) ∙ rest

pub returns-in_err-check_head : goal.returns-in_err-check_head
returns-in_err-check_head c =
    let e = c.in_err-check_head.field-0.0 in
    let r : c.from_residual.result ≡ Err e = search rules in
    let q : number_of e ≡ first (head c.args.zeros c.args.c) = search rules in
    ap A.number r ∙ refused c.args.zeros c.args.c e q

pub returns-then-not-sized : goal.returns-then-not-sized
returns-then-not-sized c =
    let h : 0 ≡ first (head c.args.zeros c.args.c) = search rules in
    fast c.args.zeros c.args.c h (search rules)

pub position_fits-requires : goal.position_fits-requires
position_fits-requires c =
    let h : 0 ≡ first (head c.args.zeros c.args.c) = search rules in
    within-sized (accepted-within c.args.c.mark (on-mark c.args.zeros c.args.c h))

pub returns-then-not-position_fits : goal.returns-then-not-position_fits
returns-then-not-position_fits c =
    let h : 0 ≡ first (head c.args.zeros c.args.c) = search rules in
    far c.args.zeros c.args.c h (search rules) (search rules)

pub returns-then-not-sized-2 : goal.returns-then-not-sized-2
returns-then-not-sized-2 c =
    let h : 0 ≡ first (head c.args.zeros c.args.c) = search rules in
    long c.args.zeros c.args.c h (search rules) (search rules) (search rules)

pub returns : goal.returns
returns c =
    let h : 0 ≡ first (head c.args.zeros c.args.c) = search rules in
    none c.args.zeros c.args.c h (search rules) (search rules) (search rules)

-- The shared checks, then 7 and 8: at each test the table's first condition that is met gives the whole answer.
use Rattle.std.proofs.Common.{rules, ◌≡◌, refl, sym, ◌∙◌, ap, Bool, true, false, ◌&&◌, [], ◌∷◌, Err}
use Rattle.std.specs.Prelude.{not, leb}
use Rattle.refusal.specs.declared.Refusal.{Refusal}
use Rattle.refusal.specs.Answered as A
use Rattle.refusal.specs.Answered.{number_of}
use Rattle.refusal.specs.Refusal.{Table, first}
use Rattle.refusal.proofs.AnsweredLaws.{above}
use Rattle.refusal.proofs.RefusalLaws.{positive, stays, onward}
use Rattle.mark.specs.Mark.{sized}
use Rattle.head.specs.Head.{head_checks}
use Rattle.field.specs.declared.record.Opened.{Opened}
use Rattle.field.specs.Field.{opened_checks}
use Rattle.field.proofs.record.check_opened.Goals as goal

-- ---- the table in its parts

abbrev head : Bool → Opened → Table
head z f = head_checks f.site f.frame (z && leb f.tide 1) f.epoch f.mark

abbrev own : Opened → Table
own f = (7, not (sized 5000 f.speed)) ∷ (8, not (sized 10000000 f.offset)) ∷ []

all-positive : (z : Bool) (f : Opened) → positive (head z f) ≡ true
unfolding positive
all-positive z f = refl

module _ (z : Bool) (f : Opened) where
  refused : (e : Refusal) → number_of e ≡ first (head z f) → number_of e ≡ first (opened_checks z f)
  unfolding opened_checks
  refused e q = q ∙ sym (stays (head z f) (own f) (above e _ q))

  module _ (h : 0 ≡ first (head z f)) where
    rest : first (own f) ≡ first (opened_checks z f)
    unfolding opened_checks
    rest = sym (onward (head z f) (own f) (all-positive z f) (sym h))

    fast : sized 5000 f.speed ≡ false → 7 ≡ first (opened_checks z f)
    unfolding first
    fast s = (let t : 7 ≡ first (own f) = rw s refl in t) ∙ rest

    far : sized 5000 f.speed ≡ true → sized 10000000 f.offset ≡ false → 8 ≡ first (opened_checks z f)
    unfolding first
    far s o = (let t : 8 ≡ first (own f) = rw (s, o) refl in t) ∙ rest

    none : sized 5000 f.speed ≡ true → sized 10000000 f.offset ≡ true → 0 ≡ first (opened_checks z f)
    unfolding first
    none s o = (let t : 0 ≡ first (own f) = rw (s, o) refl in t) ∙ rest

pub returns-in_err-check_head : goal.returns-in_err-check_head
returns-in_err-check_head c =
    let e = c.in_err-check_head.field-0.0 in
    let r : c.from_residual.result ≡ Err e = search rules in
    let q : number_of e ≡ first (head c.args.zeros c.args.f) = search rules in
    ap A.number r ∙ refused c.args.zeros c.args.f e q

pub returns-then-not-sized : goal.returns-then-not-sized
returns-then-not-sized c =
    let h : 0 ≡ first (head c.args.zeros c.args.f) = search rules in
    fast c.args.zeros c.args.f h (search rules)

pub returns-then-not-sized-2 : goal.returns-then-not-sized-2
returns-then-not-sized-2 c =
    let h : 0 ≡ first (head c.args.zeros c.args.f) = search rules in
    far c.args.zeros c.args.f h (search rules) (search rules)

pub returns : goal.returns
returns c =
    let h : 0 ≡ first (head c.args.zeros c.args.f) = search rules in
    none c.args.zeros c.args.f h (search rules) (search rules)

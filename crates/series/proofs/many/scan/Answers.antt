-- A row that is refused is the first; a row that is not is passed by.
use Rattle.std.proofs.Common.{◌≡◌, refl, sym, ap, ◌∙◌, ℕ, ◌+◌, ◌-◌, ◌<◌, ◌≤◌, length}
use native.Mathlib.Omega.{arith}
use borrow.Author.Tests.{eqb-false}
use Rattle.refusal.proofs.AnsweredLaws.{some}
use Rattle.refusal.proofs.FirstBadLaws.{bad-end, bad-on, bad-here}
use Rattle.tides.specs.declared.BodyVector.{BodyVector}
use Rattle.tides.specs.Tide.{bodies_number}
use Rattle.series.specs.Steps.{number_at}
use Rattle.series.proofs.SeriesLaws.{not-finite}
use Rattle.series.proofs.many.scan.Goals as goal

pub loop-place-preserved : goal.loop-place-preserved
unfolding number_at
loop-place-preserved c =
    let n = length c.args.rows.now in
    let i = c.loop-place.place in
    let l : i < n = c.loop-place-test.true in
    let z : number_at c.args.rows.now i ≡ 0 = sym (c.in_default.ensures ∙ ap (λ (b : BodyVector × BodyVector). bodies_number b.0 b.1) c.bodies_of.ensures) in
    sym (bad-on (number_at c.args.rows.now) i (n - i) (n - (i + 1)) (omega arith) z) ∙ c.loop-place.invariant

pub returns-then-not-is_finite : goal.returns-then-not-is_finite
returns-then-not-is_finite c =
    let n = length c.args.rows.now in
    let i = c.loop-place.place in
    let l : i < n = c.loop-place-test.true in
    let t = not-finite c.args.rows.now i c.loop-x.x-index c.loop-x-test.true (sym c.if-not-is_finite.ensures.value) in
    bad-here (number_at c.args.rows.now) i (n - i) (n - (i + 1)) 10 (omega arith) (sym t) (eqb-false 10 0 refl) ∙ c.loop-place.invariant

pub returns-in-Err : goal.returns-in-Err
unfolding number_at
returns-in-Err c =
    let n = length c.args.rows.now in
    let i = c.loop-place.place in
    let l : i < n = c.loop-place-test.true in
    let e = c.in-Err.ensures ∙ ap (λ (b : BodyVector × BodyVector). bodies_number b.0 b.1) c.bodies_of.ensures in
    bad-here (number_at c.args.rows.now) i (n - i) (n - (i + 1)) _ (omega arith) e (some c.in-Err.refusal) ∙ c.loop-place.invariant

pub returns-after-loop-place : goal.returns-after-loop-place
returns-after-loop-place c =
    let n = length c.args.rows.now in
    let i = c.loop-place.place in
    let l : n ≤ i = c.loop-place-test.false in
    let k : i ≤ n = c.loop-place.auto.place-end in
    ap (λ (j : ℕ). (0, j)) (omega arith) ∙ bad-end (number_at c.args.rows.now) i (n - i) (omega arith) ∙ c.loop-place.invariant

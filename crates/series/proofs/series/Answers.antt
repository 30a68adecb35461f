-- The mark's direction, the rows as they are cut, their scan, and their tides.
use Rattle.std.proofs.Common.{rules, ◌≡◌, refl, sym, ap, ◌∙◌, ℕ, ◌/◌, ◌%◌, Result, Ok, Err, true, false, List, length, Float}
use borrow.Author.Tests.{eqb-false}
use Rattle.std.specs.Simd.{first_chunks}
use Rattle.refusal.specs.declared.Refusal.{Refusal}
use Rattle.refusal.specs.declared.Refused.{Refused}
use Rattle.refusal.specs.Answered.{answered, counted, number_of}
use Rattle.refusal.proofs.AnsweredLaws.{some}
use Rattle.mark.specs.declared.Vec3.{Vec3}
use Rattle.mark.specs.Mark.{nowhere, length_of, marked}
use Rattle.mark.proofs.MarkLaws.{number-unmarked}
use Rattle.tides.specs.Direction.{units}
use Rattle.tides.specs.Aim.{aim_of}
use Rattle.series.specs.Series.{series_answer}
use Rattle.tides.proofs.AimLaws.{aim-marked, aim-unmarked, aim-number, aim-is}
use Rattle.series.specs.Steps.{shifts_of}
use Rattle.series.proofs.SeriesLaws.{series-unmarked, kept, left-over, other-length, scanned, written}
use Rattle.series.proofs.series.Goals as goal
use Rattle.series.proofs.series.Goals.{then-not-is_empty-via-then-not-is_empty, then-not-is_empty-via-else-not-is_empty+then-out-rows}

-- the mark's refusal, which comes with 0
no-mark : (m : Vec3) (b : List Float) (n : ℕ) (d : Result Vec3 Refusal) (s : Result ℕ Refused) → answered nowhere d ≡ aim_of m → (r : Refusal) × ((d ≡ Err r) × (s ≡ Err (record { refusal = r; place = 0 }))) → (counted s ≡ (6, 0)) × ((6, 0) ≡ series_answer m b n)
no-mark m b n d s h z =
    let e : answered nowhere (Err z.0) ≡ aim_of m = sym (ap (answered nowhere) z.1.0) ∙ h in
    let u : marked m ≡ false = aim-unmarked m z.0 e in
    let k : number_of z.0 ≡ 6 = aim-number m z.0 e ∙ number-unmarked m u in
    (ap counted z.1.1 ∙ ap (λ (j : ℕ). (j, 0)) k, series-unmarked m b n u)

-- an accepted mark, and its direction
a-mark : (m u : Vec3) (d : Result Vec3 Refusal) → answered nowhere d ≡ aim_of m → d ≡ Ok u → (marked m ≡ true) × (u ≡ units (length_of m) m)
a-mark m u d e h =
    let k : answered nowhere (Ok u) ≡ aim_of m = sym (ap (answered nowhere) h) ∙ e in
    (aim-marked m u k, aim-is m u k)

-- a bad row
counts : (e : Refused) (s : Result ℕ Refused) → s ≡ Err e → counted s ≡ counted (Err e)
counts e s h = ap counted h

refused-row : (e : Refused) (s : Result ℕ Refused) → s ≡ Err e → (counted s).0 ≡ 0 → ⊥
refused-row e s h z = some e.refusal (sym (ap (λ (r : ℕ × ℕ). r.0) (ap counted h)) ∙ z)

none-left : (n r : ℕ) → r ≡ n % 6 → r ≡ 0 → n % 6 ≡ 0
none-left n r e h = sym e ∙ h

pub returns-in_err-u-clause-value : goal.returns-in_err-u-clause-value
returns-in_err-u-clause-value c =
    let a = c.args in
    let k = no-mark a.m a.bodies.now (length a.out.now) c.direction_of.result c.from_residual.result c.direction_of.ensures (search rules) in
    k.0 ∙ k.1

pub returns-in_err-u-clause-out_after : goal.returns-in_err-u-clause-out_after
returns-in_err-u-clause-out_after c =
    let a = c.args in
    kept a.m a.bodies.now a.out.now (6, 0)
    (no-mark a.m a.bodies.now (length a.out.now) c.direction_of.result c.from_residual.result c.direction_of.ensures (search rules)).1
    (eqb-false 6 0 refl)

pub returns-then-not-is_empty-clause-value : goal.returns-then-not-is_empty-clause-value
returns-then-not-is_empty-clause-value c =
    let a = c.args in
    let k = a-mark a.m c.in_ok-u.u c.direction_of.result c.direction_of.ensures (search rules) in
    let f : c.as_chunks.result.0.now ≡ first_chunks 6 (length a.bodies.now / 6) a.bodies.now = c.as_chunks.ensures.front in
    elim c.then-not-is_empty.branch [
      | then-not-is_empty-via-then-not-is_empty w ↦ left-over a.m a.bodies.now a.out.now c.as_chunks.result.0.now f k.0 (λ e. let z : length c.as_chunks.result.1.now ≡ 0 = c.as_chunks.ensures.back_len ∙ e in let x = w.if-not-is_empty.true in let y = c.is_empty.ensures in search rules)
      | then-not-is_empty-via-else-not-is_empty+then-out-rows w ↦ other-length a.m a.bodies.now a.out.now c.as_chunks.result.0.now f k.0 w.if-out-rows.true
    ]

pub returns-in_err-count-clause-value : goal.returns-in_err-count-clause-value
returns-in_err-count-clause-value c =
    let a = c.args in
    let k = a-mark a.m c.in_ok-u.u c.direction_of.result c.direction_of.ensures (search rules) in
    let f : c.as_chunks.result.0.now ≡ first_chunks 6 (length a.bodies.now / 6) a.bodies.now = c.as_chunks.ensures.front in
    let w : length a.bodies.now % 6 ≡ 0 = none-left (length a.bodies.now) (length c.as_chunks.result.1.now) c.as_chunks.ensures.back_len (search rules) in
    counts c.in_err-count.field-0.0 c.from_residual-in_err-count.result (search rules) ∙ c.in_err-count.ensures ∙ scanned a.m a.bodies.now a.out.now c.as_chunks.result.0.now f k.0 w c.if-out-rows.false

pub returns-clause-value : goal.returns-clause-value
returns-clause-value c =
    let a = c.args in
    let k = a-mark a.m c.in_ok-u.u c.direction_of.result c.direction_of.ensures (search rules) in
    let f : c.as_chunks.result.0.now ≡ first_chunks 6 (length a.bodies.now / 6) a.bodies.now = c.as_chunks.ensures.front in
    let w : length a.bodies.now % 6 ≡ 0 = none-left (length a.bodies.now) (length c.as_chunks.result.1.now) c.as_chunks.ensures.back_len (search rules) in
    c.in_ok-count.ensures ∙ scanned a.m a.bodies.now a.out.now c.as_chunks.result.0.now f k.0 w c.if-out-rows.false

pub returns-then-not-is_empty-clause-out_after : goal.returns-then-not-is_empty-clause-out_after
returns-then-not-is_empty-clause-out_after c =
    kept c.args.m c.args.bodies.now c.args.out.now (16, 0) (returns-then-not-is_empty-clause-value c) (eqb-false 16 0 refl)

pub returns-in_err-count-clause-out_after : goal.returns-in_err-count-clause-out_after
returns-in_err-count-clause-out_after c =
    kept c.args.m c.args.bodies.now c.args.out.now (counted c.from_residual-in_err-count.result) (returns-in_err-count-clause-value c)
    (refused-row c.in_err-count.field-0.0 c.from_residual-in_err-count.result (search rules))

pub returns-clause-out_after : goal.returns-clause-out_after
returns-clause-out_after c =
    let a = c.args in
    let k = a-mark a.m c.in_ok-u.u c.direction_of.result c.direction_of.ensures (search rules) in
    let f : c.as_chunks.result.0.now ≡ first_chunks 6 (length a.bodies.now / 6) a.bodies.now = c.as_chunks.ensures.front in
    let w : length a.bodies.now % 6 ≡ 0 = none-left (length a.bodies.now) (length c.as_chunks.result.1.now) c.as_chunks.ensures.back_len (search rules) in
    c.fill.ensures
    ∙ ap (λ (v : Vec3). shifts_of v c.as_chunks.result.0.now) k.1
    ∙ written a.m a.bodies.now a.out.now c.as_chunks.result.0.now f k.0 w c.if-out-rows.false (sym (ap (λ (p : ℕ × ℕ). p.0) c.in_ok-count.ensures))

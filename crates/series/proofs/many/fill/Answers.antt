-- One row more.
use Rattle.std.proofs.Common.{rules, ◌≡◌, refl, ap, ◌∙◌, ◌+◌, ◌*◌, ◌≤◌, ℤ, List, [], ◌∷◌, length, get_or, Result, Ok, Err, Float}
use native.Mathlib.Omega.{arith}
use Rattle.std.specs.Result.{result_unwrap_or}
use Rattle.refusal.specs.declared.Refusal.{Refusal}
use Rattle.refusal.specs.Answered.{Answered, answered}
use Rattle.mark.specs.declared.Vec3.{Vec3}
use Rattle.mark.specs.Mark.{nowhere}
use Rattle.tides.specs.declared.BodyVector.{BodyVector}
use Rattle.tides.specs.Aim.{pair_at}
use Rattle.series.specs.Series.{body_at}
use Rattle.series.specs.Steps.{shift_of}
use Rattle.series.proofs.SeriesLaws.{shifts-step}
use Rattle.series.proofs.many.fill.Goals as goal

-- the value of an answer, zeros with a refusal
value-of : (r : Result Vec3 Refusal) → result_unwrap_or r nowhere ≡ (answered nowhere r).value
value-of (Ok v) = refl
value-of (Err e) = refl

told : (u : Vec3) (row : List Float) (b : BodyVector × BodyVector) (r : Result Vec3 Refusal) (s : Vec3) (x y z : ℤ) → b ≡ (body_at row 0, body_at row 3) → answered nowhere r ≡ pair_at u b.0 b.1 → s ≡ result_unwrap_or r nowhere → x ≡ s.x → y ≡ s.y → z ≡ s.z → (x ∷ y ∷ z ∷ []) ≡ shift_of u row
unfolding shift_of
told u row b r s x y z e h p px py pz =
    let k : s ≡ (pair_at u b.0 b.1).value = p ∙ value-of r ∙ ap (λ (a : Answered Vec3). a.value) h in
    rw (px, py, pz, k, e)

pub loop-i-preserved : goal.loop-i-preserved
loop-i-preserved c =
    let i = c.loop-i.i in
    let row : List Float = get_or c.args.rows.now i [] in
    let l : 3 * i + 3 ≤ length c.loop-i.out = omega arith in
    shifts-step c.args.u c.args.rows.now i c.loop-i.out _ _ _ c.loop-i-test.true l
    (told c.args.u row c.bodies_of.result c.pair_at.result c.unwrap_or-shift.result _ _ _ c.bodies_of.ensures c.pair_at.ensures c.unwrap_or-shift.ensures (search rules) (search rules) (search rules))
    c.loop-i.invariant

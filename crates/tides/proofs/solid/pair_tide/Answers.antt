-- What is seen of both, then the Moon's part and the Sun's.
use Rattle.std.proofs.Common.{rules, ◌≡◌, ap, ◌∙◌, ℕ, ◌≤◌, Err}
use mathlib.Core.Path.{ap₂, subst⁻¹}
use native.Mathlib.Omega.{arith}
use borrow.Author.Tests.{ne_eqb}
use lib.Dec.{lit≤}
use Rattle.refusal.specs.declared.Refusal.{Refusal}
use Rattle.refusal.specs.Answered.{answered, number_of}
use Rattle.refusal.proofs.AnsweredLaws.{some}
use Rattle.mark.specs.declared.Vec3.{Vec3}
use Rattle.mark.specs.Mark.{nowhere, plus}
use Rattle.mark.specs.Ranges.{Within}
use Rattle.mark.proofs.LengthLaws.{widen}
use Rattle.tides.specs.declared.BodyVector.{BodyVector}
use Rattle.tides.specs.declared.bodies.Sight.{Sight}
use Rattle.tides.specs.Aim.{pair_answer}
use Rattle.tides.specs.Bodies.{moon, sun, third_k0}
use Rattle.tides.specs.Steps.{Reached}
use Rattle.tides.specs.Tide.{standing_at, degree_two, degree_three, moon_part, sun_part, tide_at, bodies_number}
use Rattle.tides.proofs.TideLaws.{moon-two-small, moon-three-small, moon-part-small, sun-part-small}
use Rattle.tides.proofs.BodyLaws.{sighted, refused}
use Rattle.tides.proofs.solid.pair_tide.Goals as goal

no-pair : (u : Vec3) (v w : BodyVector) (e : Refusal) → number_of e ≡ bodies_number v w → answered nowhere (Err e) ≡ pair_answer u v w
unfolding pair_answer
no-pair u v w e n = rw (n, ne_eqb (bodies_number v w) 0 (λ q. some e (n ∙ q)))

pub returns-in_err-moon : goal.returns-in_err-moon
returns-in_err-moon c =
    let r = c.in_err-moon.field-0.0 in
    let e : c.from_residual.result ≡ Err r = search rules in
    ap (answered nowhere) e ∙ no-pair c.args.aim.u c.args.v c.args.w r (refused c.args.v c.args.w r c.in_err-moon.ensures)

-- a body that is seen is far enough
wide : (low high : ℕ) (s : Sight) → 146000000 ≤ low → high ≤ 410000000 → Reached low high s → Reached 146000000 410000000 s
wide low high s l m h = record { squares = h.squares; least = omega (arith, h.least); most = omega (arith, h.most) }

pub new-moon-requires-clause-near : goal.new-moon-requires-clause-near
new-moon-requires-clause-near c =
    omega (arith, (sighted c.args.v c.args.w c.in_ok-moon.moon c.in_ok-moon.sun c.in_ok-moon.ensures).moon_reached.least)

pub new-moon-requires-clause-reached : goal.new-moon-requires-clause-reached
new-moon-requires-clause-reached c =
    wide 350000000 410000000 c.in_ok-moon.moon (lit≤ tt) (lit≤ tt) (sighted c.args.v c.args.w c.in_ok-moon.moon c.in_ok-moon.sun c.in_ok-moon.ensures).moon_reached

pub new-sun-requires-clause-near : goal.new-sun-requires-clause-near
new-sun-requires-clause-near c =
    omega (arith, (sighted c.args.v c.args.w c.in_ok-moon.moon c.in_ok-moon.sun c.in_ok-moon.ensures).sun_reached.least)

pub new-sun-requires-clause-reached : goal.new-sun-requires-clause-reached
new-sun-requires-clause-reached c =
    wide 146000000 153000000 c.in_ok-moon.sun (lit≤ tt) (lit≤ tt) (sighted c.args.v c.args.w c.in_ok-moon.moon c.in_ok-moon.sun c.in_ok-moon.ensures).sun_reached

pub sum-moon_part-requires-clause-within : goal.sum-moon_part-requires-clause-within
sum-moon_part-requires-clause-within c =
    let a = c.args.aim in
    let s = sighted c.args.v c.args.w c.in_ok-moon.moon c.in_ok-moon.sun c.in_ok-moon.ensures in
    let e : c.degree_two.result ≡ degree_two moon.k0 a.u (standing_at moon a.u c.in_ok-moon.moon.at) = c.degree_two.ensures ∙ (λ i. degree_two moon.k0 (c.new-moon.ensures.aim i).u (c.new-moon.ensures.body i)) in
    subst⁻¹ (Within 1461000000) e (widen (moon-two-small a.u c.in_ok-moon.moon.at a.short s.moon_reached.least) (lit≤ tt))

pub sum-moon_part-requires-clause-within_2 : goal.sum-moon_part-requires-clause-within_2
sum-moon_part-requires-clause-within_2 c =
    let a = c.args.aim in
    let s = sighted c.args.v c.args.w c.in_ok-moon.moon c.in_ok-moon.sun c.in_ok-moon.ensures in
    let e : c.degree_three.result ≡ degree_three third_k0 a.u (standing_at moon a.u c.in_ok-moon.moon.at) = c.degree_three.ensures ∙ (λ i. degree_three third_k0 (c.new-moon.ensures.aim i).u (c.new-moon.ensures.body i)) in
    subst⁻¹ (Within 1461000000) e (widen (moon-three-small a.u c.in_ok-moon.moon.at a.short s.moon_reached.least) (lit≤ tt))

-- the Moon's part
moon-is : (u v r two three : Vec3) → r ≡ plus two three → two ≡ degree_two moon.k0 u (standing_at moon u v) → three ≡ degree_three third_k0 u (standing_at moon u v) → r ≡ moon_part u v
unfolding moon_part
moon-is u v r two three e f g = e ∙ ap₂ plus f g

sun-is : (u v r : Vec3) → r ≡ degree_two sun.k0 u (standing_at sun u v) → r ≡ sun_part u v
unfolding sun_part
sun-is u v r e = e

pub sum-requires-clause-within : goal.sum-requires-clause-within
sum-requires-clause-within c =
    let a = c.args.aim in
    let s = sighted c.args.v c.args.w c.in_ok-moon.moon c.in_ok-moon.sun c.in_ok-moon.ensures in
    let e : c.sum-moon_part.result ≡ moon_part a.u c.in_ok-moon.moon.at = moon-is a.u c.in_ok-moon.moon.at _ _ _ c.sum-moon_part.ensures (c.degree_two.ensures ∙ (λ i. degree_two moon.k0 (c.new-moon.ensures.aim i).u (c.new-moon.ensures.body i))) (c.degree_three.ensures ∙ (λ i. degree_three third_k0 (c.new-moon.ensures.aim i).u (c.new-moon.ensures.body i))) in
    subst⁻¹ (Within 1461000000) e (widen (moon-part-small a.u c.in_ok-moon.moon.at a.short s.moon_reached.least) (lit≤ tt))

pub sum-requires-clause-within_2 : goal.sum-requires-clause-within_2
sum-requires-clause-within_2 c =
    let a = c.args.aim in
    let s = sighted c.args.v c.args.w c.in_ok-moon.moon c.in_ok-moon.sun c.in_ok-moon.ensures in
    let e : c.degree_two-2.result ≡ sun_part a.u c.in_ok-moon.sun.at = sun-is a.u c.in_ok-moon.sun.at _ (c.degree_two-2.ensures ∙ (λ i. degree_two sun.k0 (c.new-sun.ensures.aim i).u (c.new-sun.ensures.body i))) in
    subst⁻¹ (Within 1461000000) e (widen (sun-part-small a.u c.in_ok-moon.sun.at a.short s.sun_reached.least) (lit≤ tt))

pub returns : goal.returns
unfolding pair_answer tide_at
returns c =
    let a = c.args.aim in
    let s = sighted c.args.v c.args.w c.in_ok-moon.moon c.in_ok-moon.sun c.in_ok-moon.ensures in
    let m : c.sum-moon_part.result ≡ moon_part a.u c.in_ok-moon.moon.at = moon-is a.u c.in_ok-moon.moon.at _ _ _ c.sum-moon_part.ensures (c.degree_two.ensures ∙ (λ i. degree_two moon.k0 (c.new-moon.ensures.aim i).u (c.new-moon.ensures.body i))) (c.degree_three.ensures ∙ (λ i. degree_three third_k0 (c.new-moon.ensures.aim i).u (c.new-moon.ensures.body i))) in
    let n : c.degree_two-2.result ≡ sun_part a.u c.in_ok-moon.sun.at = sun-is a.u c.in_ok-moon.sun.at _ (c.degree_two-2.ensures ∙ (λ i. degree_two sun.k0 (c.new-sun.ensures.aim i).u (c.new-sun.ensures.body i))) in
    rw (s.number, c.sum.ensures, m, n, s.moon_at, s.sun_at)

-- The mark's direction, then the bodies, in either order.
use Rattle.std.proofs.Common.{rules, ◌≡◌, sym, ap, ◌∙◌, Ok, Err}
use mathlib.Core.Path.{ap₂}
use Rattle.refusal.specs.Refusal.{first}
use Rattle.refusal.specs.declared.Refusal.{Refusal}
use Rattle.refusal.specs.declared.Refusal.TheVariants.{BodyPair}
use Rattle.refusal.specs.Answered.{answered}
use Rattle.mark.specs.declared.Vec3.{Vec3}
use Rattle.mark.specs.Mark.{nowhere}
use Rattle.mark.proofs.MarkLaws.{number-unmarked}
use Rattle.tides.specs.declared.BodyVector.{BodyVector}
use Rattle.tides.specs.declared.Body.{Body}
use Rattle.tides.specs.declared.Body.TheVariants.{Moon, Sun}
use Rattle.tides.specs.Bodies.{paired, moon_of, sun_of}
use Rattle.tides.specs.Tide.{tide, bodies_number, tide_number, tide_answer}
use Rattle.tides.specs.Aim.{aim_of, pair_answer}
use Rattle.tides.proofs.AimLaws.{aim-marked, aim-unmarked, aim-number, aim-is, aim-direction}
use Rattle.tides.proofs.BodyLaws.{either_order}
use Rattle.tides.proofs.solid_tide.Goals as goal

-- ---- the answers

no-mark : (m : Vec3) (a b : Body) (e : Refusal) → answered nowhere (Err e) ≡ aim_of m → answered nowhere (Err e) ≡ tide_answer m a b
unfolding tide_answer tide_number first
no-mark m a b e h =
    let k = aim-unmarked m e h in
    rw (aim-number m e h, number-unmarked m k, k)

module _ (m u : Vec3) (h : answered nowhere (Ok u) ≡ aim_of m) where
  two-moons : (v w : BodyVector) → answered nowhere (Err BodyPair) ≡ tide_answer m (Moon v) (Moon w)
  unfolding tide_answer tide_number paired first
  two-moons v w = rw (aim-marked m u h)

  two-suns : (v w : BodyVector) → answered nowhere (Err BodyPair) ≡ tide_answer m (Sun v) (Sun w)
  unfolding tide_answer tide_number paired first
  two-suns v w = rw (aim-marked m u h)

  in_order : (v w : BodyVector) → pair_answer u v w ≡ tide_answer m (Moon v) (Sun w)
  unfolding pair_answer bodies_number tide_answer tide_number tide paired moon_of sun_of first
  in_order v w = rw (aim-marked m u h, aim-is m u h)

pub returns-in_err-u : goal.returns-in_err-u
returns-in_err-u c =
    let r = c.in_err-u.field-0.0 in
    let e : c.from_residual.result ≡ Err r = search rules in
    ap (answered nowhere) e ∙ no-mark c.args.m c.args.first c.args.second r c.in_err-u.ensures

pub invariant_of-aim : goal.invariant_of-aim
invariant_of-aim c = record { short = aim-direction c.args.m c.in_ok-u.u c.in_ok-u.ensures }

pub invariant_of-aim-in-Sun-Moon : goal.invariant_of-aim-in-Sun-Moon
invariant_of-aim-in-Sun-Moon c = record { short = aim-direction c.args.m c.in_ok-u.u c.in_ok-u.ensures }

pub returns-in-Moon-Sun : goal.returns-in-Moon-Sun
returns-in-Moon-Sun c =
    let b = c.in-Moon-Sun in
    c.pair_tide.ensures ∙ in_order c.args.m c.in_ok-u.u c.in_ok-u.ensures b.v b.w ∙ sym (ap₂ (tide_answer c.args.m) b.is-0 b.is-1)

pub returns-in-Sun-Moon : goal.returns-in-Sun-Moon
returns-in-Sun-Moon c =
    let b = c.in-Sun-Moon in
    c.pair_tide-in-Sun-Moon.ensures
    ∙ in_order c.args.m c.in_ok-u.u c.in_ok-u.ensures b.v b.w
    ∙ either_order c.args.m (Moon b.v) (Sun b.w)
    ∙ sym (ap₂ (tide_answer c.args.m) b.is-0 b.is-1)

pub returns-in-Moon-Moon : goal.returns-in-Moon-Moon
returns-in-Moon-Moon c =
    let b = c.in-Moon-Moon in
    two-moons c.args.m c.in_ok-u.u c.in_ok-u.ensures b.field-0-0 b.field-0-1 ∙ sym (ap₂ (tide_answer c.args.m) b.is-0 b.is-1)

pub returns-in-Sun-Sun : goal.returns-in-Sun-Sun
returns-in-Sun-Sun c =
    let b = c.in-Sun-Sun in
    two-suns c.args.m c.in_ok-u.u c.in_ok-u.ensures b.field-0-0 b.field-0-1 ∙ sym (ap₂ (tide_answer c.args.m) b.is-0 b.is-1)

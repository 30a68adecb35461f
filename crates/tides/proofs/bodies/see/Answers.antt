-- Both are finite before either is in reach; a vector of wholes that are clipped is in reach where it is the vector itself.
use Rattle.std.proofs.Common.{rules, ◌≡◌, sym, ap, ◌∙◌, ◌^◌, ◌<◌, ℕ, true, false, Ok, Err}
use lib.Dec.{lit<}
use Rattle.refusal.specs.declared.Refusal.{Refusal}
use Rattle.refusal.specs.declared.Refusal.TheVariants.{BodyNotFinite, BodyDistance}
use Rattle.mark.specs.declared.Vec3.{Vec3}
use Rattle.mark.specs.Mark.{each, between, length_of}
use Rattle.tides.specs.declared.BodyVector.{BodyVector}
use Rattle.tides.specs.declared.bodies.Sight.{Sight}
use Rattle.tides.specs.Bodies.{wholes, finite, in_reach}
use Rattle.tides.specs.Steps.{clipped, seen, wholes_of, sight_of, sights_of}
use Rattle.refusal.proofs.AnsweredLaws.{kept, dropped}
use Rattle.tides.proofs.BodyLaws.{clipped-sight}
use Rattle.tides.proofs.bodies.see.Goals as goal

no-wholes : (v : BodyVector) (e : Refusal) → Err e ≡ wholes_of v → (finite v ≡ false) × (e ≡ BodyNotFinite)
unfolding wholes_of
no-wholes v e h = dropped (finite v) (each clipped (wholes v)) BodyNotFinite e (sym h)

all-wholes : (v : BodyVector) (w : Vec3) → Ok w ≡ wholes_of v → (finite v ≡ true) × (w ≡ each clipped (wholes v))
unfolding wholes_of
all-wholes v w h = kept (finite v) (each clipped (wholes v)) w BodyNotFinite (sym h)

module _ (low high : ℕ) (v : BodyVector) (w : Vec3) (h : high < 2 ^ 30) (f : Ok w ≡ wholes_of v) where
  at-wholes : sight_of low high w ≡ sight_of low high (wholes v)
  at-wholes = ap (sight_of low high) (all-wholes v w f).1 ∙ clipped-sight low high (wholes v) h

  out-of-reach : (e : Refusal) → Err e ≡ sight_of low high w → (between low high (length_of (wholes v)) ≡ false) × (e ≡ BodyDistance)
  unfolding sight_of
  out-of-reach e k = dropped (between low high (length_of (wholes v))) (seen (wholes v)) BodyDistance e (sym (k ∙ at-wholes))

  in-sight : (s : Sight) → Ok s ≡ sight_of low high w → (between low high (length_of (wholes v)) ≡ true) × (s ≡ seen (wholes v))
  unfolding sight_of
  in-sight s k = kept (between low high (length_of (wholes v))) (seen (wholes v)) s BodyDistance (sym (k ∙ at-wholes))

pub returns-in_err-v : goal.returns-in_err-v
unfolding sights_of
returns-in_err-v c =
    let r = c.in_err-v.field-0.0 in
    let e : c.from_residual.result ≡ Err r = search rules in
    let k = no-wholes c.args.moon r c.in_err-v.ensures in
    e ∙ rw (k.0, k.1)

pub returns-in_err-w : goal.returns-in_err-w
unfolding sights_of
returns-in_err-w c =
    let r = c.in_err-w.field-0.0 in
    let e : c.from_residual-in_err-w.result ≡ Err r = search rules in
    let v = all-wholes c.args.moon c.in_ok-v.v c.in_ok-v.ensures in
    let k = no-wholes c.args.sun r c.in_err-w.ensures in
    e ∙ rw (v.0, k.0, k.1)

pub returns-in_err-moon : goal.returns-in_err-moon
unfolding sights_of in_reach
returns-in_err-moon c =
    let r = c.in_err-moon.field-0.0 in
    let e : c.from_residual-in_err-moon.result ≡ Err r = search rules in
    let v = all-wholes c.args.moon c.in_ok-v.v c.in_ok-v.ensures in
    let w = all-wholes c.args.sun c.in_ok-w.w c.in_ok-w.ensures in
    let k = out-of-reach 350000000 410000000 c.args.moon c.in_ok-v.v (lit< tt) c.in_ok-v.ensures r c.in_err-moon.ensures in
    e ∙ rw (v.0, w.0, k.0, k.1)

pub returns-in_err-sun : goal.returns-in_err-sun
unfolding sights_of in_reach
returns-in_err-sun c =
    let r = c.in_err-sun.field-0.0 in
    let e : c.from_residual-in_err-sun.result ≡ Err r = search rules in
    let v = all-wholes c.args.moon c.in_ok-v.v c.in_ok-v.ensures in
    let w = all-wholes c.args.sun c.in_ok-w.w c.in_ok-w.ensures in
    let j = in-sight 350000000 410000000 c.args.moon c.in_ok-v.v (lit< tt) c.in_ok-v.ensures c.in_ok-moon.moon c.in_ok-moon.ensures in
    let k = out-of-reach 146000000 153000000 c.args.sun c.in_ok-w.w (lit< tt) c.in_ok-w.ensures r c.in_err-sun.ensures in
    e ∙ rw (v.0, w.0, j.0, k.0, k.1)

pub returns : goal.returns
unfolding sights_of in_reach
returns c =
    let v = all-wholes c.args.moon c.in_ok-v.v c.in_ok-v.ensures in
    let w = all-wholes c.args.sun c.in_ok-w.w c.in_ok-w.ensures in
    let j = in-sight 350000000 410000000 c.args.moon c.in_ok-v.v (lit< tt) c.in_ok-v.ensures c.in_ok-moon.moon c.in_ok-moon.ensures in
    let k = in-sight 146000000 153000000 c.args.sun c.in_ok-w.w (lit< tt) c.in_ok-w.ensures c.in_ok-sun.sun c.in_ok-sun.ensures in
    rw (v.0, w.0, j.0, k.0, j.1, k.1)

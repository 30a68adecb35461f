-- The root of the sum of squares is the distance; q by `near`, d by `units`, c by `cosine`.
use Rattle.std.proofs.Common.{◌≡◌, refl, sym, ap, ◌∙◌, ℕ, ◌*◌, ◌≤◌, ℤ, pos, ◌*ℤ◌}
use mathlib.Core.Path.{subst⁻¹}
use native.Mathlib.Nat.{le_refl}
use native.Mathlib.Omega.{arith}
use Rattle.algebra.proofs.Machine.{rd, Va, lit, at, v*, answered}
use Rattle.mark.specs.declared.Vec3.{Vec3}
use Rattle.mark.specs.Mark.{length_of}
use Rattle.mark.specs.Ranges.{Within}
use Rattle.tides.specs.declared.bodies.Sight.{Sight}
use Rattle.tides.specs.declared.solid.Standing.{Standing}
use Rattle.tides.specs.Direction.{E, units}
use Rattle.tides.specs.Steps.{Reached, Stood}
use Rattle.tides.specs.Tide.{nearness, cosine, standing}
use Rattle.tides.proofs.DirectionLaws.{length-within, direction-within}
use Rattle.tides.proofs.StepLaws.{said}
use Rattle.tides.proofs.TideLaws.{stands}
use Rattle.numbers.specs.Near.{near}
use Rattle.numbers.specs.Root.{root}
use Rattle.tides.proofs.solid.Aspect.new.Goals as goal

-- the distance
far : (s : Sight) (r : ℕ) → r ≡ root s.squares → Reached 146000000 410000000 s → length_of s.at ≡ r
unfolding length_of
far s r e h = sym (e ∙ ap root h.squares)

pub units-d-requires : goal.units-d-requires
units-d-requires c =
    let s = c.args.s in
    let e = far s c.root-r.result c.root-r.ensures c.requires.reached in
    let w = length-within c.root-r.result s.at e in
    let h = c.requires.reached.most in
    record { x = omega (arith, w.x, h, e); y = omega (arith, w.y, h, e); z = omega (arith, w.z, h, e) }

pub cosine-c-requires : goal.cosine-c-requires
cosine-c-requires c =
    let s = c.args.s in
    subst⁻¹ (λ (w : Vec3). Within E w) c.units-d.ensures (direction-within c.root-r.result s.at (far s c.root-r.result c.root-r.ensures c.requires.reached))

named : (r0 : ℕ) (f q k : ℤ) (u d : Vec3) (s : Sight) (r : ℕ) → f ≡ pos r0 → r0 * 10 ≤ 11 * length_of s.at → Reached 146000000 410000000 s → r ≡ root s.squares → q ≡ near (rd (rd f *ℤ pos E)) r → d ≡ units r s.at → k ≡ cosine u (units r s.at) → ◌≡◌ {A = Standing} (record { q = q; d = d; c = k }) (standing r0 u s.at (length_of s.at))
unfolding standing nearness
named r0 f q k u d s r p n h e eq ed ek =
    let v : Va (rd f *ℤ pos E) (pos r0 *ℤ pos E) (r0 * E) = v* (said p (le_refl r0) (omega (arith, n, h.most))) (lit E) in
    rw (ek, ed, eq, (at v (omega (arith, n, h.most))).told, far s r e h)

pub invariant_of-result : goal.invariant_of-result
invariant_of-result c =
    let a = c.args in
    let h = c.requires in
    let e : ◌≡◌ {A = Standing} (record { q = rd c.near-q.result; d = c.units-d.result; c = rd c.cosine-c.result }) (standing a.r0 a.aim.u a.s.at (length_of a.s.at)) = named a.r0 c.from.result _ _ a.aim.u c.units-d.result a.s c.root-r.result c.from.ensures h.near h.reached c.root-r.ensures (answered c.near-q.result c.near-q.type_inv ∙ c.near-q.ensures) c.units-d.ensures (answered c.cosine-c.result c.cosine-c.type_inv ∙ c.cosine-c.ensures ∙ ap (cosine a.aim.u) c.units-d.ensures) in
    record { stood = subst⁻¹ Stood e (stands a.r0 a.aim.u a.s.at (length_of a.s.at) h.near a.aim.short refl h.reached.least) }

pub returns-clause-body : goal.returns-clause-body
returns-clause-body c =
    let a = c.args in
    let h = c.requires in
    named a.r0 c.from.result _ _ a.aim.u c.units-d.result a.s c.root-r.result c.from.ensures h.near h.reached c.root-r.ensures
    (answered c.near-q.result c.near-q.type_inv ∙ c.near-q.ensures)
    c.units-d.ensures
    (answered c.cosine-c.result c.cosine-c.type_inv ∙ c.cosine-c.ensures ∙ ap (cosine a.aim.u) c.units-d.ensures)

-- Each term is in its range.
use Rattle.std.proofs.Common.{◌≡◌, ◌+◌, ◌*◌, ◌≤◌, ℤ, nat_abs, ◌+ℤ◌, ◌-ℤ◌, ◌*ℤ◌}
use lib.Dec.{lit<, lit≤}
use Rattle.algebra.proofs.Machine.{rd, Va, at, v+, v-, v*, fit}
use Rattle.tides.specs.Direction.{E, times}
use Rattle.tides.specs.Tide.{component}
use Rattle.tides.proofs.StepLaws.{vtimes, held}
use Rattle.numbers.proofs.NearSteps.{vnear}
use Rattle.tides.proofs.solid.component.Goals as goal

-- d - near(c u/E)
across : (c u d r : ℤ) → nat_abs c ≤ 1073742006 → nat_abs u ≤ E → nat_abs d ≤ E → r ≡ times (rd c) (rd u) → Va (rd d -ℤ rd r) (d -ℤ times c u) (E + 1073742006)
across c u d r hc hu hd e =
    v- (held d E hd (lit< tt)) (vtimes 1073742006 e (held c 1073742006 hc (lit< tt)) (held u E hu (lit< tt)) (lit≤ tt) (lit< tt))

side : (t : ℤ) {x y : ℤ} → nat_abs t ≤ 200000000 → Va x y (E + 1073742006) → Va (rd t *ℤ rd x) (t *ℤ y) (200000000 * (E + 1073742006))
side t h v = v* (held t 200000000 h (lit< tt)) (at v (lit< tt))

whole : (rho t u : ℤ) {x y : ℤ} → nat_abs rho ≤ 500000000 → nat_abs t ≤ 200000000 → nat_abs u ≤ E → Va x y (E + 1073742006) → Va (rd (rd rho *ℤ rd u) +ℤ rd (rd t *ℤ rd x)) (rho *ℤ u +ℤ t *ℤ y) (500000000 * E + 200000000 * (E + 1073742006))
whole rho t u hr ht hu v = v+ (at (v* (held rho 500000000 hr (lit< tt)) (held u E hu (lit< tt))) (lit< tt)) (at (side t ht v) (lit< tt))

pub overflow_sub-d : goal.overflow_sub-d
overflow_sub-d c =
    let a = c.args in
    let h = c.requires in
    fit (across a.c a.u a.d c.times.result h.c_bound h.u_bound h.d_bound c.times.ensures) (lit< tt)

pub overflow_mul-t : goal.overflow_mul-t
overflow_mul-t c =
    let a = c.args in
    let h = c.requires in
    fit (side a.t h.t_bound (across a.c a.u a.d c.times.result h.c_bound h.u_bound h.d_bound c.times.ensures)) (lit< tt)

pub overflow_add-rho : goal.overflow_add-rho
overflow_add-rho c =
    let a = c.args in
    let h = c.requires in
    fit (whole a.rho a.t a.u h.rho_bound h.t_bound h.u_bound (across a.c a.u a.d c.times.result h.c_bound h.u_bound h.d_bound c.times.ensures)) (lit< tt)

pub returns : goal.returns
unfolding component
returns c =
    let a = c.args in
    let h = c.requires in
    (vnear E 1400000000 c.near.ensures (at (whole a.rho a.t a.u h.rho_bound h.t_bound h.u_bound (across a.c a.u a.d c.times.result h.c_bound h.u_bound h.d_bound c.times.ensures)) (lit< tt)) (lit≤ tt) (lit< tt)).told

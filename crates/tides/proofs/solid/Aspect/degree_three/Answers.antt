-- Each step in its range, from how the Moon stands.
use Rattle.std.proofs.Common.{◌≡◌, ap, ◌∙◌, ◌+◌, ◌*◌, ℤ, pos, ◌*ℤ◌}
use lib.Dec.{lit<, lit≤}
use Rattle.algebra.proofs.Machine.{rd, Va, lit, at, v*, fit}
use Rattle.mark.specs.declared.Vec3.{Vec3}
use Rattle.tides.specs.declared.solid.Standing.{Standing}
use Rattle.tides.specs.Direction.{E, times}
use Rattle.tides.specs.Bodies.{third_k0}
use Rattle.tides.specs.Tide.{cube, displaced, fourth, strength_three, height_three, slope_three, up_share_three, side_share_three, upward_three, sideways_three, degree_three}
use Rattle.tides.specs.Steps.{Stood}
use Rattle.tides.proofs.StepLaws.{vtimes, said, held, size}
use Rattle.tides.proofs.DegreeTwoLaws.{cube-bound}
use Rattle.tides.proofs.DegreeThreeLaws.{height-three-bound, slope-three-bound}
use Rattle.numbers.specs.Near.{near}
use Rattle.numbers.proofs.NearSteps.{vnear}
use Rattle.tides.proofs.solid.Aspect.degree_three.Goals as goal

module _ (b : Standing) (h : Stood b) where
  vq : Va (rd b.q) b.q 1181116007
  vq = held b.q 1181116007 h.q (lit< tt)

  abbrev K : ℤ
  K = strength_three third_k0 b.q

  module _ (q3 : ℤ) (e : q3 ≡ cube (rd b.q)) where
    v_q3 : Va (rd q3) (cube b.q) 1429150371
    v_q3 = said (e ∙ ap cube vq.told) (cube-bound b.q 1181116007 1299227609 1429150371 h.q (lit≤ tt) (lit≤ tt)) (lit< tt)

    module _ (q4 : ℤ) (f : q4 ≡ times (rd q3) (rd b.q)) where
      v_q4 : Va (rd q4) (fourth b.q) 1572065409
      unfolding fourth
      v_q4 = vtimes 1572065409 f v_q3 vq (lit≤ tt) (lit< tt)

      module _ (k : ℤ) (g : k ≡ times (pos 8687448) (rd q4)) where
        v_k : Va (rd k) K 12719293
        unfolding strength_three
        v_k = vtimes 12719293 g (lit third_k0) v_q4 (lit≤ tt) (lit< tt)

        v_h : (r : ℤ) → r ≡ near (rd (pos 292 *ℤ rd k)) 1000 → Va (rd r) (up_share_three K) 3714034
        unfolding up_share_three
        v_h r i = vnear 1000 3714034 i (at (v* (lit 292) v_k) (lit< tt)) (lit≤ tt) (lit< tt)

        v_s : (r : ℤ) → r ≡ near (rd (pos 15 *ℤ rd k)) 1000 → Va (rd r) (side_share_three K) 190790
        unfolding side_share_three
        v_s r i = vnear 1000 190790 i (at (v* (lit 15) v_k) (lit< tt)) (lit≤ tt) (lit< tt)

  v_p : (r : ℤ) → r ≡ height_three b.c → Va (rd r) (height_three b.c) (4 * E + 1643)
  v_p r e = said e (height-three-bound b.c h.c) (lit< tt)

  v_v : (r : ℤ) → r ≡ slope_three b.c → Va (rd r) (slope_three b.c) (9 * E + 2738)
  v_v r e = said e (slope-three-bound b.c h.c) (lit< tt)

v_rho : (k c s p r : ℤ) → Va s (up_share_three k) 3714034 → Va p (height_three c) (4 * E + 1643) → r ≡ times s p → Va (rd r) (upward_three k c) 14856142
unfolding upward_three
v_rho k c s p r v w e = vtimes 14856142 e v w (lit≤ tt) (lit< tt)

v_t : (k c s p r : ℤ) → Va s (side_share_three k) 190790 → Va p (slope_three c) (9 * E + 2738) → r ≡ times s p → Va (rd r) (sideways_three k c) 1717111
unfolding sideways_three
v_t k c s p r v w e = vtimes 1717111 e v w (lit≤ tt) (lit< tt)

named : (u : Vec3) (b : Standing) (rho t : ℤ) → rho ≡ upward_three (strength_three third_k0 b.q) b.c → t ≡ sideways_three (strength_three third_k0 b.q) b.c → displaced rho t u b ≡ degree_three third_k0 u b
unfolding degree_three
named u b rho t e f = λ i. displaced (e i) (f i) u b

pub times-requires : goal.times-requires
times-requires c =
    let b = c.args.self.body in
    let h = c.args.self.stood in
    fit (v* (v_q3 b h c.cube.result c.cube.ensures) (vq b h)) (lit< tt)

pub times-k-requires : goal.times-k-requires
times-k-requires c = fit (v* (lit third_k0) (v_q4 c.args.self.body c.args.self.stood c.cube.result c.cube.ensures c.times.result c.times.ensures)) (lit< tt)

pub overflow_mul-k : goal.overflow_mul-k
overflow_mul-k c = fit (v* (lit 292) (v_k c.args.self.body c.args.self.stood c.cube.result c.cube.ensures c.times.result c.times.ensures c.times-k.result c.times-k.ensures)) (lit< tt)

pub overflow_mul-k-2 : goal.overflow_mul-k-2
overflow_mul-k-2 c = fit (v* (lit 15) (v_k c.args.self.body c.args.self.stood c.cube.result c.cube.ensures c.times.result c.times.ensures c.times-k.result c.times-k.ensures)) (lit< tt)

pub times-rho-requires : goal.times-rho-requires
times-rho-requires c =
    let b = c.args.self.body in
    let h = c.args.self.stood in
    fit (v* (v_h b h c.cube.result c.cube.ensures c.times.result c.times.ensures c.times-k.result c.times-k.ensures c.near-h.result c.near-h.ensures) (v_p b h c.height_three.result c.height_three.ensures)) (lit< tt)

pub times-t-requires : goal.times-t-requires
times-t-requires c =
    let b = c.args.self.body in
    let h = c.args.self.stood in
    fit (v* (v_s b h c.cube.result c.cube.ensures c.times.result c.times.ensures c.times-k.result c.times-k.ensures c.near-s.result c.near-s.ensures) (v_v b h c.slope_three.result c.slope_three.ensures)) (lit< tt)

up : (c : goal.After-times-t) → Va (rd c.times-rho.result) (upward_three (strength_three third_k0 c.args.self.body.q) c.args.self.body.c) 14856142
up c =
    let b = c.args.self.body in
    let h = c.args.self.stood in
    v_rho _ b.c _ _ c.times-rho.result
    (v_h b h c.cube.result c.cube.ensures c.times.result c.times.ensures c.times-k.result c.times-k.ensures c.near-h.result c.near-h.ensures)
    (v_p b h c.height_three.result c.height_three.ensures)
    c.times-rho.ensures

side : (c : goal.After-times-t) → Va (rd c.times-t.result) (sideways_three (strength_three third_k0 c.args.self.body.q) c.args.self.body.c) 1717111
side c =
    let b = c.args.self.body in
    let h = c.args.self.stood in
    v_t _ b.c _ _ c.times-t.result
    (v_s b h c.cube.result c.cube.ensures c.times.result c.times.ensures c.times-k.result c.times-k.ensures c.near-s.result c.near-s.ensures)
    (v_v b h c.slope_three.result c.slope_three.ensures)
    c.times-t.ensures

pub displaced-requires-clause-rho_bound : goal.displaced-requires-clause-rho_bound
displaced-requires-clause-rho_bound c = size (up c) (lit≤ tt)

pub displaced-requires-clause-t_bound : goal.displaced-requires-clause-t_bound
displaced-requires-clause-t_bound c = size (side c) (lit≤ tt)

pub returns : goal.returns
returns c =
    let b = c.args.self.body in
    let h = c.args.self.stood in
    c.displaced.ensures
    ∙ named c.args.self.aim.u b _ _
    (v_rho _ b.c _ _ c.times-rho.result
    (v_h b h c.cube.result c.cube.ensures c.times.result c.times.ensures c.times-k.result c.times-k.ensures c.near-h.result c.near-h.ensures)
    (v_p b h c.height_three.result c.height_three.ensures)
    c.times-rho.ensures).told
    (v_t _ b.c _ _ c.times-t.result
    (v_s b h c.cube.result c.cube.ensures c.times.result c.times.ensures c.times-k.result c.times-k.ensures c.near-s.result c.near-s.ensures)
    (v_v b h c.slope_three.result c.slope_three.ensures)
    c.times-t.ensures).told

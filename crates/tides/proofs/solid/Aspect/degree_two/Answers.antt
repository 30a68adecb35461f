-- |c| is at most E + 182, so that c c fits; K has its range from q's.
use Rattle.std.proofs.Common.{◌≡◌, refl, ap, ◌∙◌, ℕ, ◌+◌, ◌*◌, ◌≤◌, ℤ, pos, negsuc, nat_abs, ◌*ℤ◌}
use mathlib.Core.Path.{ap₂}
use native.Mathlib.Omega.{arith}
use lib.Dec.{lit<, lit≤}
use Rattle.algebra.proofs.Machine.{rd, Va, lit, at, v*, fit, vis}
use Rattle.mark.specs.declared.Vec3.{Vec3}
use Rattle.mark.specs.Ranges.{Within}
use Rattle.tides.specs.declared.solid.Standing.{Standing}
use Rattle.tides.specs.Direction.{E, times, legendre}
use Rattle.tides.specs.Permanent.{latitude}
use Rattle.tides.specs.Tide.{cube, displaced, strength, height, up_share, side_share, upward, sideways, degree_two}
use Rattle.tides.specs.Steps.{Stood, share_of}
use Rattle.tides.proofs.StepLaws.{vtimes, said, held, size}
use Rattle.tides.proofs.ShareLaws.{up_is, side-is, up-share-size, side-share-size}
use Rattle.tides.proofs.DegreeTwoLaws.{cube-bound, strength-bound, height_bound, latitude-bound}
use Rattle.tides.proofs.solid.Aspect.degree_two.Goals as goal

-- ---- K

K-bound : (k0 : ℕ) (q : ℤ) → nat_abs q ≤ 1181116007 → k0 ≤ 523578453 → nat_abs (strength k0 q) ≤ 696882923
K-bound k0 q h k = strength-bound k0 q 1181116007 1299227609 1429150371 696882923 h (lit≤ tt) (lit≤ tt) (omega arith)

module _ (b : Standing) (h : Stood b) where
  vc : Va (rd b.c) b.c (E + 182)
  vc = held b.c (E + 182) h.c (lit< tt)

  v_q3 : (r : ℤ) → r ≡ cube (rd b.q) → Va (rd r) (cube b.q) 1429150371
  v_q3 r e =
      said (e ∙ ap cube (held b.q 1181116007 h.q (lit< tt)).told) (cube-bound b.q 1181116007 1299227609 1429150371 h.q (lit≤ tt) (lit≤ tt)) (lit< tt)

  v_c2 : (r : ℤ) → r ≡ times (rd b.c) (rd b.c) → Va (rd r) (times b.c b.c) (E + 365)
  v_c2 r e = vtimes (E + 365) e vc vc (lit≤ tt) (lit< tt)

  height-is : nat_abs (legendre (times b.c b.c)) ≤ E + 548
  unfolding height
  height-is = height_bound b.c h.c

  v_p : (r s : ℤ) → r ≡ times (rd b.c) (rd b.c) → s ≡ legendre (rd r) → Va (rd s) (legendre (times b.c b.c)) (E + 548)
  v_p r s e f = said (f ∙ ap legendre (v_c2 r e).told) height-is (lit< tt)

  v_k : (k0 : ℕ) (f r s : ℤ) → f ≡ pos k0 → k0 ≤ 523578453 → r ≡ cube (rd b.q) → s ≡ times (rd f) (rd r) → Va (rd s) (strength k0 b.q) 696882923
  unfolding strength
  v_k k0 f r s g l e z =
      vis (vtimes 696882924 z (said g l (lit< tt)) (v_q3 r e) (lit≤ tt) (lit< tt)) refl (K-bound k0 b.q h.q l)

-- ---- P, H, S

v_P : (u : Vec3) (r : ℤ) → Within E u → r ≡ latitude u → Va (rd r) (latitude u) (E + 548)
v_P u r w e = said e (latitude-bound u w) (lit< tt)

-- a share that is asked for is that of the plain P and K
shared : (a b : ℤ) {p p' k k' : ℤ} {n m : ℕ} → Va p p' n → Va k k' m → share_of a b p k ≡ share_of a b p' k'
shared a b v w = ap₂ (λ (p k : ℤ). share_of a b p k) v.told w.told

v_h : (P K p k r : ℤ) → Va p P (E + 548) → Va k K 696882923 → r ≡ share_of (pos 6078) (negsuc 5) p k → Va (rd r) (up_share P K) 424053260
v_h P K p k r v w e = said (e ∙ shared (pos 6078) (negsuc 5) v w ∙ up_is P K) (omega (arith, up-share-size P K v.small, w.small)) (lit< tt)

v_s : (P K p k r : ℤ) → Va p P (E + 548) → Va k K 696882923 → r ≡ share_of (pos 847) (pos 2) p k → Va (rd r) (side_share P K) 59235049
v_s P K p k r v w e = said (e ∙ shared (pos 847) (pos 2) v w ∙ side-is P K) (omega (arith, side-share-size P K v.small, w.small)) (lit< tt)

-- ---- rho and t

v_rho : (P K c h p r : ℤ) → Va h (up_share P K) 424053260 → Va p (legendre (times c c)) (E + 548) → r ≡ times h p → Va (rd r) (upward P K c) 424053477
unfolding upward height
v_rho P K c h p r v w e = vtimes 424053477 e v w (lit≤ tt) (lit< tt)

v_t : (P K c s d r : ℤ) → Va s (side_share P K) 59235049 → Va d c (E + 182) → r ≡ times s d → Va (pos 3 *ℤ rd r) (sideways P K c) (3 * 59235060)
unfolding sideways
v_t P K c s d r v w e = v* (lit 3) (vtimes 59235060 e v w (lit≤ tt) (lit< tt))

named :
    (k0 : ℕ) (u : Vec3) (b : Standing) (rho t : ℤ)
    → rho ≡ upward (latitude u) (strength k0 b.q) b.c
    → t ≡ sideways (latitude u) (strength k0 b.q) b.c
    → displaced rho t u b ≡ degree_two k0 u b
unfolding degree_two
named k0 u b rho t e f = λ i. displaced (e i) (f i) u b

pub times-k-requires : goal.times-k-requires
times-k-requires c = fit (v* (said c.from.ensures c.requires (lit< tt)) (v_q3 c.args.self.body c.args.self.stood c.cube.result c.cube.ensures)) (lit< tt)

pub share-h-requires-clause-p_bound : goal.share-h-requires-clause-p_bound
share-h-requires-clause-p_bound c = size (v_P c.args.self.aim.u c.latitude-p.result c.args.self.aim.short.each c.latitude-p.ensures) (lit≤ tt)

pub share-h-requires-clause-k_bound : goal.share-h-requires-clause-k_bound
share-h-requires-clause-k_bound c =
    size (v_k c.args.self.body c.args.self.stood c.args.k0 c.from.result c.cube.result c.times-k.result c.from.ensures c.requires c.cube.ensures c.times-k.ensures) (lit≤ tt)

pub share-s-requires-clause-p_bound : goal.share-s-requires-clause-p_bound
share-s-requires-clause-p_bound c = size (v_P c.args.self.aim.u c.latitude-p.result c.args.self.aim.short.each c.latitude-p.ensures) (lit≤ tt)

pub share-s-requires-clause-k_bound : goal.share-s-requires-clause-k_bound
share-s-requires-clause-k_bound c =
    size (v_k c.args.self.body c.args.self.stood c.args.k0 c.from.result c.cube.result c.times-k.result c.from.ensures c.requires c.cube.ensures c.times-k.ensures) (lit≤ tt)

pub times-requires : goal.times-requires
times-requires c = let v = vc c.args.self.body c.args.self.stood in fit (v* v v) (lit< tt)

pub legendre-requires : goal.legendre-requires
legendre-requires c = size (v_c2 c.args.self.body c.args.self.stood c.times.result c.times.ensures) (lit≤ tt)

pub times-rho-requires : goal.times-rho-requires
times-rho-requires c =
    let b = c.args.self.body in
    let P = v_P c.args.self.aim.u c.latitude-p.result c.args.self.aim.short.each c.latitude-p.ensures in
    let K = v_k b c.args.self.stood c.args.k0 c.from.result c.cube.result c.times-k.result c.from.ensures c.requires c.cube.ensures c.times-k.ensures in
    fit (v* (v_h _ _ _ _ c.share-h.result P K c.share-h.ensures) (v_p b c.args.self.stood c.times.result c.legendre.result c.times.ensures c.legendre.ensures)) (lit< tt)

pub times-t-requires : goal.times-t-requires
times-t-requires c =
    let b = c.args.self.body in
    let P = v_P c.args.self.aim.u c.latitude-p.result c.args.self.aim.short.each c.latitude-p.ensures in
    let K = v_k b c.args.self.stood c.args.k0 c.from.result c.cube.result c.times-k.result c.from.ensures c.requires c.cube.ensures c.times-k.ensures in
    fit (v* (v_s _ _ _ _ c.share-s.result P K c.share-s.ensures) (vc b c.args.self.stood)) (lit< tt)

-- t, and rho, of the last calls
side : (c : goal.After-times-t) → Va (pos 3 *ℤ rd c.times-t.result) (sideways (latitude c.args.self.aim.u) (strength c.args.k0 c.args.self.body.q) c.args.self.body.c) (3 * 59235060)
side c =
    let b = c.args.self.body in
    let P = v_P c.args.self.aim.u c.latitude-p.result c.args.self.aim.short.each c.latitude-p.ensures in
    let K = v_k b c.args.self.stood c.args.k0 c.from.result c.cube.result c.times-k.result c.from.ensures c.requires c.cube.ensures c.times-k.ensures in
    v_t _ _ b.c _ _ c.times-t.result (v_s _ _ _ _ c.share-s.result P K c.share-s.ensures) (vc b c.args.self.stood) c.times-t.ensures

up : (c : goal.After-times-t) → Va (rd c.times-rho.result) (upward (latitude c.args.self.aim.u) (strength c.args.k0 c.args.self.body.q) c.args.self.body.c) 424053477
up c =
    let b = c.args.self.body in
    let P = v_P c.args.self.aim.u c.latitude-p.result c.args.self.aim.short.each c.latitude-p.ensures in
    let K = v_k b c.args.self.stood c.args.k0 c.from.result c.cube.result c.times-k.result c.from.ensures c.requires c.cube.ensures c.times-k.ensures in
    v_rho _ _ b.c _ _ c.times-rho.result (v_h _ _ _ _ c.share-h.result P K c.share-h.ensures) (v_p b c.args.self.stood c.times.result c.legendre.result c.times.ensures c.legendre.ensures) c.times-rho.ensures

pub overflow_mul-t : goal.overflow_mul-t
overflow_mul-t c = fit (side c) (lit< tt)

pub displaced-requires-clause-rho_bound : goal.displaced-requires-clause-rho_bound
displaced-requires-clause-rho_bound c = size (up c) (lit≤ tt)

pub displaced-requires-clause-t_bound : goal.displaced-requires-clause-t_bound
displaced-requires-clause-t_bound c = size (at (side c) (lit< tt)) (lit≤ tt)

pub returns : goal.returns
returns c =
    let b = c.args.self.body in
    let P = v_P c.args.self.aim.u c.latitude-p.result c.args.self.aim.short.each c.latitude-p.ensures in
    let K = v_k b c.args.self.stood c.args.k0 c.from.result c.cube.result c.times-k.result c.from.ensures c.requires c.cube.ensures c.times-k.ensures in
    c.displaced.ensures
    ∙ named c.args.k0 c.args.self.aim.u b _ _
    (v_rho _ _ b.c _ _ c.times-rho.result (v_h _ _ _ _ c.share-h.result P K c.share-h.ensures) (v_p b c.args.self.stood c.times.result c.legendre.result c.times.ensures c.legendre.ensures) c.times-rho.ensures).told
    (at (v_t _ _ b.c _ _ c.times-t.result (v_s _ _ _ _ c.share-s.result P K c.share-s.ensures) (vc b c.args.self.stood) c.times-t.ensures) (lit< tt)).told

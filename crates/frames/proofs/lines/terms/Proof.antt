-- `frames::lines::terms` meets its contract. Assumes nothing.
use mathlib.Core.Path.{◌≡◌, sym, ◌∙◌, subst⁻¹}
use Prim.Native.Nat.{◌^◌, ◌≤◌, ◌<◌}
use borrow.Author.Rules.{rules}
use lib.Dec.{lit<}
use lib.IntN.{ℤ, nat_abs}
use lib.Signed.{mag}
use Rattle.algebra.proofs.Machine.{rd, plain, at, answered}
use Rattle.mark.specs.declared.Vec3.{Vec3}
use Rattle.mark.specs.Mark.{vec}
use Rattle.mark.specs.Ranges.{Within}
use Rattle.mark.proofs.LengthLaws.{vec≡}
use Rattle.frames.specs.declared.rows.Line.{Line}
use Rattle.frames.specs.Frame.{turned}
use Rattle.frames.specs.Lines.{term, straight, terms}
use Rattle.frames.proofs.LineLaws.{still, terms-straight, turned-within}
use Rattle.frames.proofs.lines.terms.Statement.{statement}
use Rattle.frames.proofs.lines.terms.Tie as tie

-- ---- one component

module _
    (k t d m : ℤ) (hk : nat_abs k ≤ 1461) (ht : nat_abs t ≤ 10000) (hd : nat_abs d ≤ 10000) (hm : nat_abs m ≤ 6400000) where
  rk : rd k ≡ k
  rk = (at (plain k hk) (lit< tt)).told

  rt : rd t ≡ t
  rt = (at (plain t ht) (lit< tt)).told

  r_d : rd d ≡ d
  r_d = (at (plain d hd) (lit< tt)).told

  rm : rd m ≡ m
  rm = (at (plain m hm) (lit< tt)).told

  asks : (nat_abs (rd k) ≤ 1461) × ((nat_abs (rd t) ≤ 10000) × ((nat_abs (rd d) ≤ 10000) × (nat_abs (rd m) ≤ 6400000)))
  asks = rw (rk, rt, r_d, rm) (hk, (ht, (hd, hm)))

  straight-told : (z : ℤ) → mag z < 2 ^ 63 → z ≡ straight (rd k) (rd t) (rd d) (rd m) → rd z ≡ straight k t d m
  straight-told z h e = answered z h ∙ e ∙ rw (rk, rt, r_d, rm)

  module _ (s : ℤ) (hs : nat_abs s ≤ 6400000000) where
    rs : rd s ≡ s
    rs = (at (plain s hs) (lit< tt)).told

    asks_turned : (nat_abs (rd k) ≤ 1461) × ((nat_abs (rd t) ≤ 10000) × ((nat_abs (rd d) ≤ 10000) × ((nat_abs (rd m) ≤ 6400000) × (nat_abs (rd s) ≤ 6400000000))))
    asks_turned = rw (rk, rt, r_d, rm, rs) (hk, (ht, (hd, (hm, hs))))

    term_told : (z : ℤ) → mag z < 2 ^ 63 → z ≡ term (rd k) (rd t) (rd d) (rd m) (rd s) → rd z ≡ term k t d m s
    term_told z h e = answered z h ∙ e ∙ rw (rk, rt, r_d, rm, rs)

-- ---- without rotation

straight-requires : tie.Need-straight-requires
straight-requires c κs = asks c.args.k c.args.p.t.x c.args.p.d c.args.m.x c.requires.0 c.requires.1.0.t.x c.requires.1.0.d c.requires.1.1.x

straight-requires-2 : tie.Need-straight-requires-then-sized
straight-requires-2 c κs = asks c.args.k c.args.p.t.y c.args.p.d c.args.m.y c.requires.0 c.requires.1.0.t.y c.requires.1.0.d c.requires.1.1.y

straight-requires-3 : tie.Need-straight-requires-then-sized-2
straight-requires-3 c κs = asks c.args.k c.args.p.t.z c.args.p.d c.args.m.z c.requires.0 c.requires.1.0.t.z c.requires.1.0.d c.requires.1.1.z

returns : tie.Need-returns-then-sized
returns c =
    let k = c.args.k in
    let p = c.args.p in
    let m = c.args.m in
    let l = c.requires.1.0 in
    let w = c.requires.1.1 in
    vec≡
    (straight-told k p.t.x p.d m.x c.requires.0 l.t.x l.d w.x c.straight.result c.straight.type_inv c.straight.ensures)
    (straight-told k p.t.y p.d m.y c.requires.0 l.t.y l.d w.y c.straight-then-sized.result c.straight-then-sized.type_inv c.straight-then-sized.ensures)
    (straight-told k p.t.z p.d m.z c.requires.0 l.t.z l.d w.z c.straight-then-sized-2.result c.straight-then-sized-2.type_inv c.straight-then-sized-2.ensures)
    ∙ sym (terms-straight k p m (still p.r (sym c.sized.ensures ∙ c.if-sized.true)))

-- ---- with it

small : (a : tie.After-turned-s) → Within 6400000000 a.turned-s.result
small a = subst⁻¹ (λ (v : Vec3). Within 6400000000 v) a.turned-s.ensures (turned-within a.requires.1.0.r a.requires.1.1)

term-requires : tie.Need-term-requires
term-requires c κs =
    asks_turned c.args.k c.args.p.t.x c.args.p.d c.args.m.x c.requires.0 c.requires.1.0.t.x c.requires.1.0.d c.requires.1.1.x c.turned-s.result.x (small c.before.before.before.before).x

term-requires-2 : tie.Need-term-requires-2
term-requires-2 c κs =
    asks_turned c.args.k c.args.p.t.y c.args.p.d c.args.m.y c.requires.0 c.requires.1.0.t.y c.requires.1.0.d c.requires.1.1.y c.turned-s.result.y (small c.before.before.before.before.before.before.before.before.before).y

term-requires-3 : tie.Need-term-requires-3
term-requires-3 c κs =
    asks_turned c.args.k c.args.p.t.z c.args.p.d c.args.m.z c.requires.0 c.requires.1.0.t.z c.requires.1.0.d c.requires.1.1.z c.turned-s.result.z (small c.before.before.before.before.before.before.before.before.before.before.before.before.before.before).z

-- with what came back for the turned mark
terms-are : (k : ℤ) (p : Line) (m s : Vec3) {v : Vec3} → s ≡ turned p.r m
    → v ≡ vec (term k p.t.x p.d m.x s.x) (term k p.t.y p.d m.y s.y) (term k p.t.z p.d m.z s.z) → v ≡ terms k p m
unfolding terms
terms-are k p m s q e = rw (← q) e

returns-2 : tie.Need-returns
returns-2 c =
    let k = c.args.k in
    let p = c.args.p in
    let m = c.args.m in
    let v = c.turned-s.result in
    let l = c.requires.1.0 in
    let w = c.requires.1.1 in
    terms-are k p m v c.turned-s.ensures
    (vec≡
    (term_told k p.t.x p.d m.x c.requires.0 l.t.x l.d w.x v.x (small c.before.before.before.before.before.before.before.before.before.before.before.before.before.before.before).x c.term.result c.term.type_inv c.term.ensures)
    (term_told k p.t.y p.d m.y c.requires.0 l.t.y l.d w.y v.y (small c.before.before.before.before.before.before.before.before.before.before.before.before.before.before.before).y c.term-2.result c.term-2.type_inv c.term-2.ensures)
    (term_told k p.t.z p.d m.z c.requires.0 l.t.z l.d w.z v.z (small c.before.before.before.before.before.before.before.before.before.before.before.before.before.before.before).z c.term-3.result c.term-3.type_inv c.term-3.ensures))

pub terms_spec : {M : Type 1} → statement M
terms_spec =
    tie.close
    (tie.spec (λ c κs. search rules) straight-requires straight-requires-2 straight-requires-3 returns (λ c κs. search rules) term-requires term-requires-2 term-requires-3
    returns-2)

-- `frames::lines::turned` meets its contract. Assumes nothing.
use Prim.Native.Nat.{◌≤◌}
use lib.Dec.{lit<}
use lib.IntN.{ℤ, nat_abs, ◌-ℤ◌, ◌*ℤ◌}
use Rattle.algebra.proofs.Machine.{rd, Va, plain, at, v-, v*, fit}
use Rattle.mark.proofs.LengthLaws.{vec≡}
use Rattle.frames.specs.Frame.{turned}
use Rattle.frames.proofs.lines.turned.Statement.{statement}
use Rattle.frames.proofs.lines.turned.Tie as tie

product : (a m : ℤ) → nat_abs a ≤ 500 → nat_abs m ≤ 6400000 → Va (rd a *ℤ rd m) (a *ℤ m) 3200000000
product a m h k = v* (at (plain a h) (lit< tt)) (at (plain m k) (lit< tt))

module _ (a m b n : ℤ) (ha : nat_abs a ≤ 500) (hm : nat_abs m ≤ 6400000) (hb : nat_abs b ≤ 500) (hn : nat_abs n ≤ 6400000) where
  difference : Va (rd (rd a *ℤ rd m) -ℤ rd (rd b *ℤ rd n)) (a *ℤ m -ℤ b *ℤ n) 6400000000
  difference = v- (at (product a m ha hm) (lit< tt)) (at (product b n hb hn) (lit< tt))

returns : tie.Need-returns
unfolding turned
returns c =
    let r = c.args.r in
    let m = c.args.m in
    let h = c.requires.0 in
    let w = c.requires.1 in
    vec≡
    (at (difference r.y m.z r.z m.y h.y w.z h.z w.y) (lit< tt)).told
    (at (difference r.z m.x r.x m.z h.z w.x h.x w.z) (lit< tt)).told
    (at (difference r.x m.y r.y m.x h.x w.y h.y w.x) (lit< tt)).told

pub turned_spec : {M : Type 1} → statement M
turned_spec =
    tie.close
    (tie.spec
    (λ c. fit (product c.args.r.y c.args.m.z c.requires.0.y c.requires.1.z) (lit< tt))
    (λ c. fit (product c.args.r.z c.args.m.y c.requires.0.z c.requires.1.y) (lit< tt))
    (λ c. fit (difference c.args.r.y c.args.m.z c.args.r.z c.args.m.y c.requires.0.y c.requires.1.z c.requires.0.z c.requires.1.y) (lit< tt))
    (λ c. fit (product c.args.r.z c.args.m.x c.requires.0.z c.requires.1.x) (lit< tt))
    (λ c. fit (product c.args.r.x c.args.m.z c.requires.0.x c.requires.1.z) (lit< tt))
    (λ c. fit (difference c.args.r.z c.args.m.x c.args.r.x c.args.m.z c.requires.0.z c.requires.1.x c.requires.0.x c.requires.1.z) (lit< tt))
    (λ c. fit (product c.args.r.x c.args.m.y c.requires.0.x c.requires.1.y) (lit< tt))
    (λ c. fit (product c.args.r.y c.args.m.x c.requires.0.y c.requires.1.x) (lit< tt))
    (λ c. fit (difference c.args.r.x c.args.m.y c.args.r.y c.args.m.x c.requires.0.x c.requires.1.y c.requires.0.y c.requires.1.x) (lit< tt))
    returns)

-- `frames::lines::straight` meets its contract. Assumes nothing.
use borrow.Author.Rules.{rules}
use lib.Dec.{lit<, lit≤}
use lib.IntN.{pos, ◌+ℤ◌, ◌*ℤ◌}
use Rattle.algebra.proofs.Machine.{rd, Va, given, lit, at, v+, v*, fit}
use Rattle.numbers.specs.Near.{near}
use Rattle.numbers.proofs.NearSteps.{vnear}
use Rattle.frames.specs.Lines.{straight}
use Rattle.frames.proofs.lines.straight.Statement.{statement}
use Rattle.frames.proofs.lines.straight.Tie as tie

vk : (s : tie.Start) → Va (rd s.args.k) s.args.k 1461
vk s = given s.ranges.k s.requires.0

units : (s : tie.Start) → Va (pos 100 *ℤ rd s.args.k) (pos 100 *ℤ s.args.k) 146100
units s = v* (lit 100) (vk s)

shift : (s : tie.Start) → Va (rd (pos 100 *ℤ rd s.args.k) *ℤ rd s.args.t) (pos 100 *ℤ s.args.k *ℤ s.args.t) 1461000000
shift s = v* (at (units s) (lit< tt)) (given s.ranges.t s.requires.1.0)

kd : (s : tie.Start) → Va (rd s.args.k *ℤ rd s.args.d) (s.args.k *ℤ s.args.d) 14610000
kd s = v* (vk s) (given s.ranges.d s.requires.1.1.0)

kdm : (s : tie.Start) → Va (rd (rd s.args.k *ℤ rd s.args.d) *ℤ rd s.args.m) (s.args.k *ℤ s.args.d *ℤ s.args.m) 93504000000000
kdm s = v* (at (kd s) (lit< tt)) (given s.ranges.m s.requires.1.1.1)

sum : (c : tie.After-near) → Va (rd (rd (pos 100 *ℤ rd c.args.k) *ℤ rd c.args.t) +ℤ rd c.near.result) (pos 100 *ℤ c.args.k *ℤ c.args.t +ℤ near (c.args.k *ℤ c.args.d *ℤ c.args.m) 100000) 2396040000
sum c = v+ (at (shift c.before) (lit< tt)) (vnear 100000 935040000 c.near.ensures (at (kdm c.before) (lit< tt)) (lit≤ tt) (lit< tt))

returns : tie.Need-returns
unfolding straight
returns c = (at (sum c) (lit< tt)).told

pub straight_spec : {M : Type 1} → statement M
straight_spec =
    tie.close
    (tie.spec (λ c. fit (units c) (lit< tt)) (λ c. fit (shift c) (lit< tt)) (λ c. fit (kd c) (lit< tt)) (λ c. fit (kdm c) (lit< tt)) (λ c κs. search rules)
    (λ c. fit (sum c) (lit< tt)) returns)

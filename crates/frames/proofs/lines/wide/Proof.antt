-- `frames::lines::wide` meets its contract: with the whole micrometres taken out, every term stays under 2^63. Assumes nothing.
use mathlib.Core.Path.{refl, ◌∙◌}
use Prim.Native.Nat.{◌*◌}
use native.Mathlib.Omega.{arith}
use borrow.Author.Rules.{rules}
use lib.Dec.{lit<, lit≤}
use lib.IntN.{ℤ, pos, ◌+ℤ◌, ◌-ℤ◌, ◌*ℤ◌}
use Rattle.algebra.proofs.Machine.{rd, Va, given, lit, at, v+, v-, v*, fit, vis}
use Rattle.numbers.specs.Near.{near}
use Rattle.numbers.proofs.NearLaws.{near-rest}
use Rattle.numbers.proofs.NearSteps.{vnear}
use Rattle.frames.specs.Frame.{micro}
use Rattle.frames.proofs.LineLaws.{left, in-twos}
use Rattle.frames.proofs.lines.wide.Statement.{statement}
use Rattle.frames.proofs.lines.wide.Tie as tie

-- ---- what the locals stand for

abbrev c : tie.Start → ℤ
c s = near s.args.a 100000

abbrev b : tie.Start → ℤ
b s = left s.args.a s.args.s (c s)

abbrev e : tie.Start → ℤ
e s = near (b s) micro

abbrev rest : tie.Start → ℤ
rest s = b s -ℤ pos micro *ℤ e s

abbrev whole : tie.Start → ℤ
whole s = s.args.k *ℤ (c s +ℤ e s)

abbrev twos : tie.Start → ℤ
twos s = near (whole s) 2

-- ---- as the machine has them, and how large they are

abbrev rest-a' : tie.After-near-c → ℤ
rest-a' p = rd p.args.a -ℤ rd (pos 100000 *ℤ rd p.near-c.result)

abbrev b' : tie.After-near-c → ℤ
b' p = rd (rd (rest-a' p) *ℤ pos 1000000000) +ℤ rd (pos 848136811 *ℤ rd p.args.s)

abbrev rest' : tie.After-near-e → ℤ
rest' p = rd (b' p.before) -ℤ rd (pos micro *ℤ rd p.near-e.result)

abbrev whole' : tie.After-near-e → ℤ
whole' p = rd p.args.k *ℤ rd (rd p.near-c.result +ℤ rd p.near-e.result)

abbrev odd' : tie.After-near-twos → ℤ
odd' p = rd (whole' p.before) -ℤ rd (pos 2 *ℤ rd p.near-twos.result)

vk : (s : tie.Start) → Va (rd s.args.k) s.args.k 1461
vk s = given s.ranges.k s.requires.0

va : (s : tie.Start) → Va (rd s.args.a) s.args.a 89600000000
va s = given s.ranges.a s.requires.1.0

vc : (p : tie.After-near-c) → Va (rd p.near-c.result) (c p.before) 896000
vc p = vnear 100000 896000 p.near-c.ensures (va p.before) (lit≤ tt) (lit< tt)

wholes : (p : tie.After-near-c) → Va (pos 100000 *ℤ rd p.near-c.result) (pos 100000 *ℤ c p.before) 89600000000
wholes p = v* (lit 100000) (vc p)

rest-a : (p : tie.After-near-c) → Va (rest-a' p) (p.args.a -ℤ pos 100000 *ℤ c p.before) 50000
rest-a p = vis (v- (va p.before) (at (wholes p) (lit< tt))) refl (omega (arith, near-rest p.args.a 100000 (lit< tt)))

scaled : (p : tie.After-near-c) → Va (rd (rest-a' p) *ℤ pos 1000000000) ((p.args.a -ℤ pos 100000 *ℤ c p.before) *ℤ pos 1000000000) 50000000000000
scaled p = v* (at (rest-a p) (lit< tt)) (lit 1000000000)

turned : (p : tie.After-near-c) → Va (pos 848136811 *ℤ rd p.args.s) (pos 848136811 *ℤ p.args.s) 5428075590400000000
turned p = v* (lit 848136811) (given p.ranges.s p.requires.1.1)

vb : (p : tie.After-near-c) → Va (b' p) (b p.before) 5428125590400000000
vb p = v+ (at (scaled p) (lit< tt)) (at (turned p) (lit< tt))

ve : (p : tie.After-near-e) → Va (rd p.near-e.result) (e p.before.before) 54282
ve p = vnear micro 54282 p.near-e.ensures (at (vb p.before) (lit< tt)) (lit≤ tt) (lit< tt)

multiple : (p : tie.After-near-e) → Va (pos micro *ℤ rd p.near-e.result) (pos micro *ℤ e p.before.before) (micro * 54282)
multiple p = v* (lit micro) (ve p)

vrest : (p : tie.After-near-e) → Va (rest' p) (rest p.before.before) 50000000000000
vrest p = vis (v- (at (vb p.before) (lit< tt)) (at (multiple p) (lit< tt))) refl (omega (arith, near-rest (b p.before.before) micro (lit< tt)))

both : (p : tie.After-near-e) → Va (rd p.near-c.result +ℤ rd p.near-e.result) (c p.before.before +ℤ e p.before.before) 950282
both p = v+ (vc p.before) (ve p)

vwhole : (p : tie.After-near-e) → Va (whole' p) (whole p.before.before) 1388362002
vwhole p = v* (vk p.before.before) (at (both p) (lit< tt))

vtwos : (p : tie.After-near-twos) → Va (rd p.near-twos.result) (twos p.before.before.before) 694181001
vtwos p = vnear 2 694181001 p.near-twos.ensures (at (vwhole p.before) (lit< tt)) (lit≤ tt) (lit< tt)

doubled : (p : tie.After-near-twos) → Va (pos 2 *ℤ rd p.near-twos.result) (pos 2 *ℤ twos p.before.before.before) 1388362002
doubled p = v* (lit 2) (vtwos p)

vodd : (p : tie.After-near-twos) → Va (odd' p) (whole p.before.before.before -ℤ pos 2 *ℤ twos p.before.before.before) 1
vodd p = vis (v- (at (vwhole p.before) (lit< tt)) (at (doubled p) (lit< tt))) refl (omega (arith, near-rest (whole p.before.before.before) 2 (lit< tt)))

carried : (p : tie.After-near-twos) → Va (rd (odd' p) *ℤ pos micro) ((whole p.before.before.before -ℤ pos 2 *ℤ twos p.before.before.before) *ℤ pos micro) (1 * micro)
carried p = v* (at (vodd p) (lit< tt)) (lit micro)

grains : (p : tie.After-near-twos) → Va (rd p.args.k *ℤ rd (rest' p.before)) (p.args.k *ℤ rest p.before.before.before) 73050000000000000
grains p = v* (vk p.before.before.before) (at (vrest p.before) (lit< tt))

last : (p : tie.After-near-twos) → Va (rd (rd (odd' p) *ℤ pos micro) +ℤ rd (rd p.args.k *ℤ rd (rest' p.before))) ((whole p.before.before.before -ℤ pos 2 *ℤ twos p.before.before.before) *ℤ pos micro +ℤ p.args.k *ℤ rest p.before.before.before) 73150000000000000
last p = v+ (at (carried p) (lit< tt)) (at (grains p) (lit< tt))

result : (p : tie.After-near) → Va (rd (pos 2 *ℤ rd p.near-twos.result) +ℤ rd p.near.result) (pos 2 *ℤ twos p.before.before.before.before +ℤ near ((whole p.before.before.before.before -ℤ pos 2 *ℤ twos p.before.before.before.before) *ℤ pos micro +ℤ p.args.k *ℤ rest p.before.before.before.before) micro) 1388362734
result p = v+ (at (doubled p.before) (lit< tt)) (vnear micro 732 p.near.ensures (at (last p.before) (lit< tt)) (lit≤ tt) (lit< tt))

returns : tie.Need-returns
returns p =
    (at (result p) (lit< tt)).told ∙ in-twos p.args.k p.args.a p.args.s (c p.before.before.before.before) (e p.before.before.before.before) (twos p.before.before.before.before)

pub wide_spec : {M : Type 1} → statement M
wide_spec =
    tie.close
    (tie.spec (λ p κs. search rules) (λ p. fit (wholes p) (lit< tt)) (λ p. fit (rest-a p) (lit< tt)) (λ p. fit (scaled p) (lit< tt))
    (λ p. fit (turned p) (lit< tt)) (λ p. fit (vb p) (lit< tt)) (λ p κs. search rules) (λ p. fit (multiple p) (lit< tt))
    (λ p. fit (vrest p) (lit< tt)) (λ p. fit (both p) (lit< tt)) (λ p. fit (vwhole p) (lit< tt)) (λ p κs. search rules)
    (λ p. fit (doubled p) (lit< tt)) (λ p. fit (doubled p) (lit< tt)) (λ p. fit (vodd p) (lit< tt)) (λ p. fit (carried p) (lit< tt))
    (λ p. fit (grains p) (lit< tt)) (λ p. fit (last p) (lit< tt)) (λ p κs. search rules) (λ p. fit (result p) (lit< tt)) returns)

-- `tides::solid::share` meets its contract: with the whole part of a k taken out, every term stays under 2^63. Assumes nothing.
use mathlib.Core.Path.{refl, ◌∙◌}
use Prim.Native.Nat.{◌+◌, ◌*◌}
use borrow.Author.Rules.{rules}
use lib.Dec.{lit<, lit≤}
use lib.IntN.{ℤ, pos, ◌+ℤ◌, ◌-ℤ◌, ◌*ℤ◌}
use Rattle.algebra.proofs.Machine.{rd, Va, given, lit, at, v+, v-, v*, fit, vis}
use Rattle.tides.specs.Direction.{E}
use Rattle.tides.proofs.ShareLaws.{rest-small, in-twos}
use Rattle.numbers.specs.Near.{near}
use Rattle.numbers.proofs.NearSteps.{vnear}
use Rattle.tides.proofs.solid.share.Statement.{statement}
use Rattle.tides.proofs.solid.share.Tie as tie

-- ---- what the locals stand for, and the sum that is rounded last

abbrev whole : tie.Start → ℤ
whole s = s.args.a *ℤ s.args.k

abbrev twos : tie.Start → ℤ
twos s = near (whole s) 20000

abbrev rest : tie.Start → ℤ
rest s = whole s -ℤ pos 20000 *ℤ twos s

abbrev wide : tie.Start → ℤ
wide s = rest s *ℤ pos E +ℤ s.args.b *ℤ s.args.p *ℤ s.args.k

-- ---- as the machine has them

abbrev whole' : tie.Start → ℤ
whole' s = rd s.args.a *ℤ rd s.args.k

abbrev turned' : tie.Start → ℤ
turned' s = rd (rd s.args.b *ℤ rd s.args.p) *ℤ rd s.args.k

abbrev rest' : tie.After-near-twos → ℤ
rest' c = rd (whole' c.before) -ℤ rd (pos 20000 *ℤ rd c.near-twos.result)

vk : (s : tie.Start) → Va (rd s.args.k) s.args.k 696882923
vk s = given s.ranges.k s.requires.1.1.1

vwhole : (s : tie.Start) → Va (whole' s) (whole s) 4235654405994
vwhole s = v* (given s.ranges.a s.requires.0) (vk s)

vbp : (s : tie.Start) → Va (rd s.args.b *ℤ rd s.args.p) (s.args.b *ℤ s.args.p) 6442454232
vbp s = v* (given s.ranges.b s.requires.1.0) (given s.ranges.p s.requires.1.1.0)

vturned : (s : tie.Start) → Va (turned' s) (s.args.b *ℤ s.args.p *ℤ s.args.k) 4489636336489880136
vturned s = v* (at (vbp s) (lit< tt)) (vk s)

vtwos : (c : tie.After-near-twos) → Va (rd c.near-twos.result) (twos c.before) 211782721
vtwos c = vnear 20000 211782721 c.near-twos.ensures (at (vwhole c.before) (lit< tt)) (lit≤ tt) (lit< tt)

multiple : (c : tie.After-near-twos) → Va (pos 20000 *ℤ rd c.near-twos.result) (pos 20000 *ℤ twos c.before) 4235654420000
multiple c = v* (lit 20000) (vtwos c)

vrest : (c : tie.After-near-twos) → Va (rest' c) (rest c.before) 10000
vrest c = vis (v- (at (vwhole c.before) (lit< tt)) (at (multiple c) (lit< tt))) refl (rest-small (whole c.before))

scaled : (c : tie.After-near-twos) → Va (rd (rest' c) *ℤ pos E) (rest c.before *ℤ pos E) (10000 * E)
scaled c = v* (at (vrest c) (lit< tt)) (lit E)

vwide : (c : tie.After-near-twos) → Va (rd (rd (rest' c) *ℤ pos E) +ℤ rd (turned' c.before)) (wide c.before) (10000 * E + 4489636336489880136)
vwide c = v+ (at (scaled c) (lit< tt)) (at (vturned c.before) (lit< tt))

doubled : (c : tie.After-near-twos) → Va (pos 2 *ℤ rd c.near-twos.result) (pos 2 *ℤ twos c.before) 423565442
doubled c = v* (lit 2) (vtwos c)

result : (c : tie.After-near) → Va (rd (pos 2 *ℤ rd c.near-twos.result) +ℤ rd c.near.result) (pos 2 *ℤ twos c.before.before +ℤ near (wide c.before.before) (10000 * E)) 423983573
result c = v+ (at (doubled c.before) (lit< tt)) (vnear (10000 * E) 418131 c.near.ensures (at (vwide c.before) (lit< tt)) (lit≤ tt) (lit< tt))

returns : tie.Need-returns
returns c =
    (at (result c) (lit< tt)).told ∙ in-twos c.args.a c.args.b c.args.p c.args.k (twos c.before.before)

pub share_spec : {M : Type 1} → statement M
share_spec =
    tie.close
    (tie.spec (λ c. fit (vwhole c) (lit< tt)) (λ c κs. search rules) (λ c. fit (multiple c) (lit< tt)) (λ c. fit (vrest c) (lit< tt))
    (λ c. fit (doubled c) (lit< tt)) (λ c. fit (scaled c) (lit< tt)) (λ c. fit (vbp c.before) (lit< tt)) (λ c. fit (vturned c.before) (lit< tt))
    (λ c. fit (vwide c) (lit< tt)) (λ c κs. search rules) (λ c. fit (result c) (lit< tt)) returns)

-- `frames::lines::term` meets its contract. Assumes nothing.
use mathlib.Core.Path.{◌∙◌}
use lib.Dec.{lit<}
use lib.IntN.{pos, ◌+ℤ◌, ◌*ℤ◌}
use Rattle.algebra.proofs.Machine.{rd, Va, given, lit, at, v+, v*, fit, answered}
use Rattle.frames.specs.Lines.{wide}
use Rattle.frames.proofs.LineLaws.{wide_is, wide-bound}
use Rattle.frames.proofs.lines.term.Statement.{statement}
use Rattle.frames.proofs.lines.term.Tie as tie

vk : (s : tie.Start) → Va (rd s.args.k) s.args.k 1461
vk s = given s.ranges.k s.requires.0

vs : (s : tie.Start) → Va (rd s.args.s) s.args.s 6400000000
vs s = given s.ranges.s s.requires.1.1.1.1

units : (s : tie.Start) → Va (pos 100 *ℤ rd s.args.k) (pos 100 *ℤ s.args.k) 146100
units s = v* (lit 100) (vk s)

shift : (s : tie.Start) → Va (rd (pos 100 *ℤ rd s.args.k) *ℤ rd s.args.t) (pos 100 *ℤ s.args.k *ℤ s.args.t) 1461000000
shift s = v* (at (units s) (lit< tt)) (given s.ranges.t s.requires.1.0)

dm : (s : tie.Start) → Va (rd s.args.d *ℤ rd s.args.m) (s.args.d *ℤ s.args.m) 64000000000
dm s = v* (given s.ranges.d s.requires.1.1.0) (given s.ranges.m s.requires.1.1.1.0)

four : (s : tie.Start) → Va (pos 4 *ℤ rd s.args.s) (pos 4 *ℤ s.args.s) 25600000000
four s = v* (lit 4) (vs s)

va : (s : tie.Start) → Va (rd (rd s.args.d *ℤ rd s.args.m) +ℤ rd (pos 4 *ℤ rd s.args.s)) (s.args.d *ℤ s.args.m +ℤ pos 4 *ℤ s.args.s) 89600000000
va s = v+ (at (dm s) (lit< tt)) (at (four s) (lit< tt))

wide-requires : tie.Need-wide-requires
wide-requires s κs = rw ((vk s).told, (at (va s) (lit< tt)).told, (vs s).told) ((vk s).small, ((va s).small, (vs s).small))

-- what came back for the fraction
told : (c : tie.After-wide) → Va (rd c.wide.result) (wide c.args.k (c.args.d *ℤ c.args.m +ℤ pos 4 *ℤ c.args.s) c.args.s) 1388360185
told c =
    record {
      told = answered c.wide.result c.wide.type_inv ∙ c.wide.ensures ∙ rw ((vk c.before).told, (at (va c.before) (lit< tt)).told, (vs c.before).told);
      small = wide-bound c.args.k (c.args.d *ℤ c.args.m +ℤ pos 4 *ℤ c.args.s) c.args.s (vk c.before).small (va c.before).small (vs c.before).small;
    }

sum : (c : tie.After-wide) → Va (rd (rd (pos 100 *ℤ rd c.args.k) *ℤ rd c.args.t) +ℤ rd c.wide.result) (pos 100 *ℤ c.args.k *ℤ c.args.t +ℤ wide c.args.k (c.args.d *ℤ c.args.m +ℤ pos 4 *ℤ c.args.s) c.args.s) 2849360185
sum c = v+ (at (shift c.before) (lit< tt)) (told c)

returns : tie.Need-returns
returns c =
    (at (sum c) (lit< tt)).told ∙ wide_is c.args.k c.args.t c.args.d c.args.m c.args.s

pub term_spec : {M : Type 1} → statement M
term_spec =
    tie.close
    (tie.spec (λ c. fit (units c) (lit< tt)) (λ c. fit (shift c) (lit< tt)) (λ c. fit (dm c) (lit< tt)) (λ c. fit (four c) (lit< tt)) (λ c. fit (va c) (lit< tt)) wide-requires
    (λ c. fit (sum c) (lit< tt)) returns)

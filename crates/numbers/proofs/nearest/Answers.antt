-- Quotient and remainder, and one more where the test is met.
use mathlib.Core.Path.{sym, ap, ◌∙◌}
use native.Mathlib.Nat.{mod-lt, div-add-mod', pos_of_ne-zero}
use native.Mathlib.Omega.{arith}
use Rattle.std.proofs.Common.{◌/◌, ◌%◌}
use Rattle.numbers.specs.Near.{nearest}
use Rattle.numbers.proofs.NearRule.{nearest-by-zero, nearest-next, nearest-stays}
use Rattle.numbers.proofs.nearest.Goals as goal

pub returns-then-b-eq0 : goal.returns-then-b-eq0
returns-then-b-eq0 c = sym (ap (nearest c.args.n) c.if-b-eq0.true ∙ nearest-by-zero c.args.n)

pub returns-then-b-r : goal.returns-then-b-r
returns-then-b-r c =
    let n = c.args.n in
    let b = c.args.b in
    let l = mod-lt n (pos_of_ne-zero c.if-b-eq0.false) in
    sym (nearest-next n b (n / b) (n % b) (div-add-mod' n b) l (omega arith))

pub returns-else-b-r : goal.returns-else-b-r
returns-else-b-r c =
    let n = c.args.n in
    let b = c.args.b in
    let p = pos_of_ne-zero c.if-b-eq0.false in
    let l = mod-lt n p in
    sym (nearest-stays n b (n / b) (n % b) (div-add-mod' n b) p (omega arith))

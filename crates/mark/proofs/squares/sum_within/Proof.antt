-- `mark::squares::sum_within` meets its contract: no component is longer than the vector, so one past high settles it. Assumes nothing.
use mathlib.Core.Path.{◌≡◌, sym, ◌∙◌, subst, ap}
use Prim.Native.Nat.{ℕ, ◌+◌, ◌-◌, ◌*◌, ◌^◌, ◌≤◌, ◌<◌}
use native.Mathlib.Nat.{mul-le-mul}
use native.Mathlib.Omega.{arith}
use borrow.Author.Rules.{rules}
use lib.IntN.{nat_abs}
use Rattle.std.specs.Prelude.{Some}
use Rattle.algebra.proofs.Machine.{size_of}
use Rattle.mark.specs.declared.Vec3.{Vec3}
use Rattle.mark.specs.Mark.{squares}
use Rattle.mark.proofs.LengthLaws.{within-length, length_above, squares-below, squares-above, squares-between}
use Rattle.mark.proofs.squares.sum_within.Statement.{statement}
use Rattle.mark.proofs.squares.sum_within.Tie as tie

x-is : (c : tie.After-magnitude-x) → c.magnitude-x.result ≡ nat_abs c.before.before.args.v.x
x-is c = size_of c.magnitude-x.result c.before.before.args.v.x (record { sfits = c.before.struct_told-1.given.0.1 }) c.magnitude-x.ensures

returns : tie.Need-returns-then-high-x
returns c =
    let v = c.before.before.before.args.v in
    sym (length_above c.before.before.before.args.low c.before.before.before.args.high v (omega (arith, x-is c.before, (within-length v).x, c.if-high-x.true)))

y-is : (c : tie.After-magnitude-y) → c.magnitude-y.result ≡ nat_abs c.before.before.before.before.before.args.v.y
y-is c = size_of c.magnitude-y.result c.before.before.before.before.before.args.v.y (record { sfits = c.before.struct_told-2-1.given.1.0.1 }) c.magnitude-y.ensures

returns-2 : tie.Need-returns-then-high-y
returns-2 c =
    let a = c.before.before.before.before.before.before.args in
    sym (length_above a.low a.high a.v (omega (arith, y-is c.before, (within-length a.v).y, c.if-high-y.true)))

z-is : (c : tie.After-magnitude-z) → c.magnitude-z.result ≡ nat_abs c.before.before.before.before.before.before.before.before.args.v.z
z-is c = size_of c.magnitude-z.result c.before.before.before.before.before.before.before.before.args.v.z (record { sfits = c.before.struct_told-3-1.given.1.1.0.1 }) c.magnitude-z.ensures

returns-3 : tie.Need-returns-then-high-z
returns-3 c =
    let a = c.before.before.before.before.before.before.before.before.before.args in
    sym (length_above a.low a.high a.v (omega (arith, z-is c.before, (within-length a.v).z, c.if-high-z.true)))

-- a component that is not squared past 2^30
square : (a high : ℕ) → a ≤ high → high < 2 ^ 30 → a * a < 2 ^ 60
square a high l h =
    let k : a ≤ 2 ^ 30 - 1 = omega arith in
    omega (arith, mul-le-mul k k)

x-square : (c : tie.Else-high-z) → c.before.before.before.before.before.before.before.magnitude-x.result * c.before.before.before.before.before.before.before.magnitude-x.result < 2 ^ 60
x-square c = square c.before.before.before.before.before.before.before.magnitude-x.result c.before.before.before.before.before.before.before.before.before.args.high c.before.before.before.before.before.before.if-high-x.false c.before.before.before.before.before.before.before.before.before.requires.1

y-square : (c : tie.Else-high-z) → c.before.before.before.before.magnitude-y.result * c.before.before.before.before.magnitude-y.result < 2 ^ 60
y-square c = square c.before.before.before.before.magnitude-y.result c.before.before.before.before.before.before.before.before.before.args.high c.before.before.before.if-high-y.false c.before.before.before.before.before.before.before.before.before.requires.1

z-square : (c : tie.Else-high-z) → c.before.magnitude-z.result * c.before.magnitude-z.result < 2 ^ 60
z-square c = square c.before.magnitude-z.result c.before.before.before.before.before.before.before.before.before.args.high c.if-high-z.false c.before.before.before.before.before.before.before.before.before.requires.1

summed : (v : Vec3) (a b c : ℕ) → a ≡ nat_abs v.x → b ≡ nat_abs v.y → c ≡ nat_abs v.z → a * a + b * b + c * c ≡ squares v
unfolding squares
summed v a b c e f g = rw (e, f, g)

sum_is : (c : tie.Else-high-z) → c.before.before.before.before.before.before.before.magnitude-x.result * c.before.before.before.before.before.before.before.magnitude-x.result
    + c.before.before.before.before.magnitude-y.result * c.before.before.before.before.magnitude-y.result
    + c.before.magnitude-z.result * c.before.magnitude-z.result
    ≡ squares c.before.before.before.before.before.before.before.before.before.args.v
sum_is c =
    summed c.before.before.before.before.before.before.before.before.before.args.v c.before.before.before.before.before.before.before.magnitude-x.result c.before.before.before.before.magnitude-y.result c.before.magnitude-z.result (x-is c.before.before.before.before.before.before.before) (y-is c.before.before.before.before) (z-is c.before)

mul-if4 : tie.Need-overflow_mul-low
mul-if4 c =
    let l = c.before.before.before.before.before.before.before.before.before.requires.0 in
    record { fits = omega (arith, square c.before.before.before.before.before.before.before.before.before.args.low c.before.before.before.before.before.before.before.before.before.args.low (omega arith) l) }

returns-4 : tie.Need-returns-then-n-low
returns-4 c =
    let a = c.before.before.before.before.before.before.before.before.before.before.args in
    sym (squares-below a.low a.high a.v (subst (λ (n : ℕ). n < a.low * a.low) (sum_is c.before) c.if-n-low.true))

mul-if5 : tie.Need-overflow_mul-high
mul-if5 c =
    let h : ℕ = c.before.before.before.before.before.before.before.before.before.before.args.high in
    let l : h < 2 ^ 30 = c.before.before.before.before.before.before.before.before.before.before.requires.1 in
    record { fits = omega (arith, square h h (omega arith) l) }

returns-5 : tie.Need-returns-then-high-n
returns-5 c =
    let a = c.before.before.before.before.before.before.before.before.before.before.before.args in
    sym (squares-above a.low a.high a.v (subst (λ (n : ℕ). a.high * (a.high + 2) < n) (sum_is c.before.before) c.if-high-n.true))

returns-6 : tie.Need-returns
returns-6 c =
    let a = c.before.before.before.before.before.before.before.before.before.before.before.args in
    let e = sum_is c.before.before in
    ap Some e ∙ sym (squares-between a.low a.high a.v (subst (λ (n : ℕ). a.low * a.low ≤ n) e c.before.if-n-low.false) (subst (λ (n : ℕ). n ≤ a.high * (a.high + 2)) e c.if-high-n.false))

pub sum_within_spec : {M : Type 1} → statement M
sum_within_spec =
    tie.close
    (tie.spec (λ c κs. search rules) returns (λ c κs. search rules) returns-2 (λ c κs. search rules) returns-3 (λ c. omega (arith, x-square c))
    (λ c. omega (arith, y-square c)) (λ c. omega (arith, x-square c, y-square c)) (λ c. omega (arith, z-square c))
    (λ c. omega (arith, x-square c, y-square c, z-square c)) mul-if4 returns-4 (λ c. search rules) mul-if5 returns-5 returns-6)

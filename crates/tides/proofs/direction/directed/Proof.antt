-- `tides::direction::directed` meets its contract: each component is at most 2^30, so that the three squares fit. Assumes nothing.
use mathlib.Core.Path.{◌≡◌, sym, ◌∙◌, subst⁻¹}
use mathlib.Core.Bool.{true, false}
use Prim.Native.Nat.{ℕ, ◌+◌, ◌*◌, ◌^◌, ◌≤◌}
use native.Mathlib.Nat.{mul-le-mul}
use native.Mathlib.Omega.{arith}
use borrow.Author.Rules.{rules}
use lib.Dec.{leb}
use lib.IntN.{nat_abs}
use Rattle.algebra.proofs.Machine.{size_of}
use Rattle.mark.specs.declared.Vec3.{Vec3}
use Rattle.mark.specs.Mark.{squares, sized}
use Rattle.mark.specs.Ranges.{Within}
use Rattle.mark.proofs.SizeLaws.{sized-is}
use Rattle.tides.specs.Direction.{E}
use Rattle.tides.specs.Aim.{directed}
use Rattle.tides.proofs.direction.directed.Statement.{statement}
use Rattle.tides.proofs.direction.directed.Tie as tie

too_long : (u : Vec3) → sized E u ≡ false → false ≡ directed u
unfolding directed
too_long u e = rw e

summed : (u : Vec3) (x y z : ℕ) → sized E u ≡ true → x ≡ nat_abs u.x → y ≡ nat_abs u.y → z ≡ nat_abs u.z → leb (x * x + y * y + z * z) 1152921873974034432 ≡ directed u
unfolding directed squares
summed u x y z e p q r = rw (e, p, q, r)

returns : tie.Need-returns-then-not-sized
returns c = too_long c.args.u (sym c.sized.ensures ∙ c.if-not-sized.true)

short : (c : tie.Else-not-sized) → sized E c.args.u ≡ true
short c = sym c.sized.ensures ∙ c.if-not-sized.false

-- ---- the three magnitudes

record Sizes (u : Vec3) (x y z : ℕ) : Type 0 where
  x-is : x ≡ nat_abs u.x
  y-is : y ≡ nat_abs u.y
  z-is : z ≡ nat_abs u.z
  x-square : x * x ≤ 2 ^ 60
  y-square : y * y ≤ 2 ^ 60
  z-square : z * z ≤ 2 ^ 60

square : (a b : ℕ) → a ≡ b → b ≤ E → a * a ≤ 2 ^ 60
square a b e h = subst⁻¹ (λ (n : ℕ). n * n ≤ 2 ^ 60) e (mul-le-mul h h)

sizes : (c : tie.After-magnitude-z) → Sizes c.args.u c.magnitude-x.result c.magnitude-y.result c.magnitude-z.result
sizes c =
    let u = c.args.u in
    let w : Within E u = sized-is E u (short c.before.before.before.before.before.before) in
    let x = size_of c.magnitude-x.result u.x (record { sfits = c.struct_told-1.given.0.1 }) c.magnitude-x.ensures in
    let y = size_of c.magnitude-y.result u.y (record { sfits = c.struct_told-2-1.given.1.0.1 }) c.magnitude-y.ensures in
    let z = size_of c.magnitude-z.result u.z (record { sfits = c.struct_told-3-1.given.1.1.0.1 }) c.magnitude-z.ensures in
    record {
      x-is = x;
      y-is = y;
      z-is = z;
      x-square = square c.magnitude-x.result (nat_abs u.x) x w.x;
      y-square = square c.magnitude-y.result (nat_abs u.y) y w.y;
      z-square = square c.magnitude-z.result (nat_abs u.z) z w.z;
    }

returns-2 : tie.Need-returns
returns-2 c =
    let s = sizes c in
    summed c.args.u c.magnitude-x.result c.magnitude-y.result c.magnitude-z.result (short c.before.before.before.before.before.before) s.x-is s.y-is s.z-is

pub directed_spec : {M : Type 1} → statement M
directed_spec =
    tie.close
    (tie.spec (λ c κs. search rules) returns (λ c κs. search rules) (λ c κs. search rules) (λ c κs. search rules)
    (λ c. record { fits = omega (arith, sizes c) }) (λ c. record { fits = omega (arith, sizes c) }) (λ c. record { fits = omega (arith, sizes c) })
    (λ c. record { fits = omega (arith, sizes c) }) (λ c. record { fits = omega (arith, sizes c) }) returns-2)

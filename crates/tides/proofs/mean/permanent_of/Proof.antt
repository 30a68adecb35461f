-- `tides::mean::permanent_of` meets its contract: the paper's steps in order, each with its size, so that nothing leaves 64 bits. Assumes nothing.
use mathlib.Core.Path.{◌≡◌, subst⁻¹}
use Prim.Native.Nat.{◌^◌, ◌≤◌}
use native.Mathlib.Nat.{le_trans}
use lib.Dec.{lit<, lit≤}
use lib.IntN.{ℤ, pos, negsuc, nat_abs, ◌+ℤ◌, ◌-ℤ◌, ◌*ℤ◌}
use Rattle.algebra.proofs.Machine.{rd, Va, given, plain, lit, at, v+, v-, v*, fit}
use Rattle.mark.specs.declared.Vec3.{Vec3}
use Rattle.mark.specs.Mark.{vec}
use Rattle.tides.specs.Direction.{E, times, legendre}
use Rattle.tides.specs.Permanent.{s2, latitude, small, radial, north, down, across, along, permanent_of}
use Rattle.tides.proofs.StepLaws.{vtimes, vlegendre}
use Rattle.tides.proofs.mean.permanent_of.Statement.{statement}
use Rattle.tides.proofs.mean.permanent_of.Tie as tie

-- a number, read back from a local
-- the steps as plain numbers
abbrev s : Vec3 → ℤ
s u = times u.z u.z

abbrev p : Vec3 → ℤ
p u = legendre (s u)

abbrev e : Vec3 → ℤ
e u = times (pos 146100) (p u)

abbrev a : Vec3 → ℤ
a u = times (e u -ℤ pos 176196600) (p u)

abbrev t : Vec3 → ℤ
t u = negsuc 36817199 -ℤ e u

abbrev w : Vec3 → ℤ
w u = times (t u) (s u)

abbrev level : Vec3 → ℤ
level u = a u -ℤ pos 2 *ℤ w u

abbrev steep : Vec3 → ℤ
steep u = a u +ℤ pos 2 *ℤ t u -ℤ pos 2 *ℤ w u

-- ---- what each local holds

uz : (c : tie.After-struct_told-2-1) → Va (rd c.args.aim.u.z) c.args.aim.u.z E
uz c = given (record { sfits = c.struct_told-2-1.given.1.1.0.1 }) c.args.aim.short.each.z

s-is : (c : tie.After-times-s) → Va (rd c.times-s.result) (s c.args.aim.u) E
s-is c = vtimes E c.times-s.ensures (uz c.before) (uz c.before) (lit≤ tt) (lit< tt)

p-is : (c : tie.After-legendre-p) → Va (rd c.legendre-p.result) (p c.args.aim.u) (2 ^ 31)
p-is c = vlegendre (2 ^ 31) c.legendre-p.ensures (s-is c.before) (lit≤ tt) (lit< tt)

e-is : (c : tie.After-times-e) → Va (rd c.times-e.result) (e c.args.aim.u) 292200
e-is c = vtimes 292200 c.times-e.ensures (lit 146100) (p-is c.before) (lit≤ tt) (lit< tt)

less : (c : tie.After-times-e) → Va (rd c.times-e.result -ℤ pos 176196600) (e c.args.aim.u -ℤ pos 176196600) 176488800
less c = v- (e-is c) (lit 176196600)

a-is : (c : tie.After-times-a) → Va (rd c.times-a.result) (a c.args.aim.u) 352977600
a-is c = vtimes 352977600 c.times-a.ensures (at (less c.before) (lit< tt)) (p-is c.before.before) (lit≤ tt) (lit< tt)

t-is : (c : tie.After-times-e) → Va (negsuc 36817199 -ℤ rd c.times-e.result) (t c.args.aim.u) 37109400
t-is c = v- {n = 36817200} (plain (negsuc 36817199) (lit≤ tt)) (e-is c)

w-is : (c : tie.After-times-w) → Va (rd c.times-w.result) (w c.args.aim.u) 37109400
w-is c = vtimes 37109400 c.times-w.ensures (at (t-is c.before.before) (lit< tt)) (s-is c.before.before.before.before) (lit≤ tt) (lit< tt)

twice-w : (c : tie.After-times-w) → Va (pos 2 *ℤ rd c.times-w.result) (pos 2 *ℤ w c.args.aim.u) 74218800
twice-w c = v* (lit 2) (w-is c)

level-is : (c : tie.After-times-w) → Va (rd c.times-a.result -ℤ rd (pos 2 *ℤ rd c.times-w.result)) (level c.args.aim.u) 427196400
level-is c = v- (a-is c.before) (at (twice-w c) (lit< tt))

twice-t : (c : tie.After-times-w) → Va (pos 2 *ℤ rd (negsuc 36817199 -ℤ rd c.times-e.result)) (pos 2 *ℤ t c.args.aim.u) 74218800
twice-t c = v* (lit 2) (at (t-is c.before.before) (lit< tt))

sum_is : (c : tie.After-times-w) → Va (rd c.times-a.result +ℤ rd (pos 2 *ℤ rd (negsuc 36817199 -ℤ rd c.times-e.result))) (a c.args.aim.u +ℤ pos 2 *ℤ t c.args.aim.u) 427196400
sum_is c = v+ (a-is c.before) (at (twice-t c) (lit< tt))

steep-is : (c : tie.After-times-w) → Va (rd (rd c.times-a.result +ℤ rd (pos 2 *ℤ rd (negsuc 36817199 -ℤ rd c.times-e.result))) -ℤ rd (pos 2 *ℤ rd c.times-w.result)) (steep c.args.aim.u) 501415200
steep-is c = v- (at (sum_is c) (lit< tt)) (at (twice-w c) (lit< tt))

-- ---- the needs

ux : (c : tie.After-struct_told-3-1) → Va (rd c.args.aim.u.x) c.args.aim.u.x E
ux c = given (record { sfits = c.struct_told-3-1.given.0.1 }) c.args.aim.short.each.x

uy : (c : tie.After-struct_told-4-1) → Va (rd c.args.aim.u.y) c.args.aim.u.y E
uy c = given (record { sfits = c.struct_told-4-1.given.1.0.1 }) c.args.aim.short.each.y

uz-2 : (c : tie.After-struct_told-5-1) → Va (rd c.args.aim.u.z) c.args.aim.u.z E
uz-2 c = given (record { sfits = c.struct_told-5-1.given.1.1.0.1 }) c.args.aim.short.each.z

named : (u : Vec3) (x y z : ℤ) → x ≡ times (level u) u.x → y ≡ times (level u) u.y → z ≡ times (steep u) u.z → vec x y z ≡ permanent_of u
unfolding permanent_of latitude s2 small radial north down across along
named u x y z f g h = cc

returns : tie.Need-returns
returns c =
    named c.args.aim.u _ _ _
    (vtimes 427196400 c.times.ensures (at (level-is c.before.before.before.before.before.before) (lit< tt)) (ux c.before.before.before.before.before) (lit≤ tt) (lit< tt)).told
    (vtimes 427196400 c.times-2.ensures (at (level-is c.before.before.before.before.before.before) (lit< tt)) (uy c.before.before.before) (lit≤ tt) (lit< tt)).told
    (vtimes 501415200 c.times-3.ensures (at (steep-is c.before.before.before.before.before.before) (lit< tt)) (uz-2 c.before) (lit≤ tt) (lit< tt)).told

pub permanent_of_spec : {M : Type 1} → statement M
permanent_of_spec =
    tie.close
    (tie.spec (λ c κs. fit (v* (uz c) (uz c)) (lit< tt))
    (λ c κs. subst⁻¹ (λ (z : ℤ). nat_abs z ≤ 2 ^ 31) (s-is c).told (le_trans (s-is c).small (lit≤ tt)))
    (λ c κs. fit (v* (lit 146100) (p-is c)) (lit< tt)) (λ c. fit (less c) (lit< tt))
    (λ c κs. fit (v* (at (less c) (lit< tt)) (p-is c.before)) (lit< tt)) (λ c. fit (t-is c.before) (lit< tt))
    (λ c κs. fit (v* (at (t-is c.before) (lit< tt)) (s-is c.before.before.before)) (lit< tt)) (λ c. fit (twice-w c) (lit< tt))
    (λ c. fit (level-is c) (lit< tt)) (λ c. fit (twice-t c) (lit< tt)) (λ c. fit (sum_is c) (lit< tt)) (λ c. fit (twice-w c) (lit< tt))
    (λ c. fit (steep-is c) (lit< tt)) (λ c κs. fit (v* (at (level-is c.before) (lit< tt)) (ux c)) (lit< tt))
    (λ c κs. fit (v* (at (level-is c.before.before.before) (lit< tt)) (uy c)) (lit< tt))
    (λ c κs. fit (v* (at (steep-is c.before.before.before.before.before) (lit< tt)) (uz-2 c)) (lit< tt)) returns)

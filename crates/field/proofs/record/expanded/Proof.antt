-- `field::record::expanded` meets its contract. Assumes nothing.
use mir.Syntax.{w64}
use mathlib.Core.Path.{◌≡◌}
use Prim.Native.Nat.{◌+◌, ◌*◌, ◌≤◌}
use lib.Dec.{lit<}
use lib.IntN.{ℤ, pos, nat_abs, ◌+ℤ◌, ◌*ℤ◌}
use mir.Facts.{to_z-of_z}
use Rattle.algebra.proofs.Machine.{Va, plain, lit, at, v+, v*, fit, rd}
use Rattle.mark.specs.declared.Vec3.{Vec3}
use Rattle.mark.specs.Mark.{vec, nowhere, plus, scaled}
use Rattle.mark.specs.Ranges.{Within}
use Rattle.mark.proofs.LengthLaws.{vec≡}
use Rattle.mark.proofs.SizeLaws.{sized-within}
use Rattle.card.specs.declared.Card.{Card}
use Rattle.field.specs.declared.record.Opened.{Opened}
use Rattle.field.specs.Field.{expanded_of}
use Rattle.field.proofs.record.expanded.Statement.{statement}
use Rattle.field.proofs.record.expanded.Tie as tie

mark : (c : tie.Start) → Within 6400000 c.args.f.mark
mark c = sized-within 6400000 c.args.f.mark c.requires.0

offset : (c : tie.Start) → Within 10000000 c.args.f.offset
offset c = sized-within 10000000 c.args.f.offset c.requires.1.0

speed : (c : tie.Start) → Within 5000 c.args.f.speed
speed c = sized-within 5000 c.args.f.speed c.requires.1.1

-- ---- one component

fast : (s : ℤ) → nat_abs s ≤ 5000 → Va (pos 100 *ℤ rd s) (pos 100 *ℤ s) (100 * 5000)
fast s h = v* (lit 100) (at (plain s h) (lit< tt))

grains : (m : ℤ) → nat_abs m ≤ 6400000 → Va (pos 1461000000 *ℤ rd m) (pos 1461000000 *ℤ m) (1461000000 * 6400000)
grains m h = v* (lit 1461000000) (at (plain m h) (lit< tt))

away : (o : ℤ) → nat_abs o ≤ 10000000 → Va (pos 146100 *ℤ rd o) (pos 146100 *ℤ o) (146100 * 10000000)
away o h = v* (lit 146100) (at (plain o h) (lit< tt))

place : (m o : ℤ) → nat_abs m ≤ 6400000 → nat_abs o ≤ 10000000
    → Va (rd (pos 1461000000 *ℤ rd m) +ℤ rd (pos 146100 *ℤ rd o)) (pos 1461000000 *ℤ m +ℤ pos 146100 *ℤ o) (1461000000 * 6400000 + 146100 * 10000000)
place m o h k = v+ (at (grains m h) (lit< tt)) (at (away o k) (lit< tt))

-- ---- the card

abbrev card : Opened → ℤ → Vec3 → Vec3 → Card
card f e v p = record { site = f.site; frame = f.frame; tide = f.tide; epoch = e; mark = f.mark; velocity = v; position = p; solid = nowhere }

card-is : (f : Opened) (e : ℤ) (v p : Vec3) → e ≡ f.epoch → v ≡ scaled (pos 100) f.speed → p ≡ plus (scaled (pos 1461000000) f.mark) (scaled (pos 146100) f.offset) → card f e v p ≡ expanded_of f
unfolding expanded_of
card-is f e v p h k l = rw (h, k, l)

velocity-is : (f : Opened) {a b c : ℤ} → a ≡ pos 100 *ℤ f.speed.x → b ≡ pos 100 *ℤ f.speed.y → c ≡ pos 100 *ℤ f.speed.z → vec a b c ≡ scaled (pos 100) f.speed
unfolding scaled
velocity-is f p q r = vec≡ p q r

position-is : (f : Opened) {a b c : ℤ}
    → a ≡ pos 1461000000 *ℤ f.mark.x +ℤ pos 146100 *ℤ f.offset.x
    → b ≡ pos 1461000000 *ℤ f.mark.y +ℤ pos 146100 *ℤ f.offset.y
    → c ≡ pos 1461000000 *ℤ f.mark.z +ℤ pos 146100 *ℤ f.offset.z
    → vec a b c ≡ plus (scaled (pos 1461000000) f.mark) (scaled (pos 146100) f.offset)
unfolding scaled plus
position-is f p q r = vec≡ p q r

-- ---- the needs

mul-t8 : tie.Need-overflow_mul-result-4
mul-t8 c = fit (grains c.args.f.mark.x (mark c.before.before.before.before.before.before.before.before.before.before).x) (lit< tt)

mul-t9 : tie.Need-overflow_mul-result-5
mul-t9 c = fit (away c.args.f.offset.x (offset c.before.before.before.before.before.before.before.before.before.before.before.before).x) (lit< tt)

add-t10 : tie.Need-overflow_add-result
add-t10 c = fit (place c.args.f.mark.x c.args.f.offset.x (mark c.before.before.before.before.before.before.before.before.before.before.before.before).x (offset c.before.before.before.before.before.before.before.before.before.before.before.before).x) (lit< tt)

mul-t11 : tie.Need-overflow_mul-result-6
mul-t11 c = fit (grains c.args.f.mark.y (mark c.before.before.before.before.before.before.before.before.before.before.before.before.before.before).y) (lit< tt)

mul-t12 : tie.Need-overflow_mul-result-7
mul-t12 c = fit (away c.args.f.offset.y (offset c.before.before.before.before.before.before.before.before.before.before.before.before.before.before.before.before).y) (lit< tt)

add-t13 : tie.Need-overflow_add-result-2
add-t13 c = fit (place c.args.f.mark.y c.args.f.offset.y (mark c.before.before.before.before.before.before.before.before.before.before.before.before.before.before.before.before).y (offset c.before.before.before.before.before.before.before.before.before.before.before.before.before.before.before.before).y) (lit< tt)

mul-t14 : tie.Need-overflow_mul-result-8
mul-t14 c = fit (grains c.args.f.mark.z (mark c.before.before.before.before.before.before.before.before.before.before.before.before.before.before.before.before.before.before).z) (lit< tt)

mul-t15 : tie.Need-overflow_mul-result-9
mul-t15 c = fit (away c.args.f.offset.z (offset c.before.before.before.before.before.before.before.before.before.before.before.before.before.before.before.before.before.before.before.before).z) (lit< tt)

add-t16 : tie.Need-overflow_add-result-3
add-t16 c = fit (place c.args.f.mark.z c.args.f.offset.z (mark c.before.before.before.before.before.before.before.before.before.before.before.before.before.before.before.before.before.before.before.before).z (offset c.before.before.before.before.before.before.before.before.before.before.before.before.before.before.before.before.before.before.before.before).z) (lit< tt)

returns : tie.Need-returns
returns c =
    let f = c.args.f in
    card-is f _ _ _ (to_z-of_z {w = w64} (record { sfits = c.struct_told-10-1.given.1.1.1.0.1 }))
    (velocity-is f
    (at (fast f.speed.x (speed c.before.before.before.before.before.before.before.before.before.before.before.before.before.before.before.before.before.before.before.before.before).x) (lit< tt)).told
    (at (fast f.speed.y (speed c.before.before.before.before.before.before.before.before.before.before.before.before.before.before.before.before.before.before.before.before.before).y) (lit< tt)).told
    (at (fast f.speed.z (speed c.before.before.before.before.before.before.before.before.before.before.before.before.before.before.before.before.before.before.before.before.before).z) (lit< tt)).told)
    (position-is f
    (at (place f.mark.x f.offset.x (mark c.before.before.before.before.before.before.before.before.before.before.before.before.before.before.before.before.before.before.before.before.before).x (offset c.before.before.before.before.before.before.before.before.before.before.before.before.before.before.before.before.before.before.before.before.before).x) (lit< tt)).told
    (at (place f.mark.y f.offset.y (mark c.before.before.before.before.before.before.before.before.before.before.before.before.before.before.before.before.before.before.before.before.before).y (offset c.before.before.before.before.before.before.before.before.before.before.before.before.before.before.before.before.before.before.before.before.before).y) (lit< tt)).told
    (at (place f.mark.z f.offset.z (mark c.before.before.before.before.before.before.before.before.before.before.before.before.before.before.before.before.before.before.before.before.before).z (offset c.before.before.before.before.before.before.before.before.before.before.before.before.before.before.before.before.before.before.before.before.before).z) (lit< tt)).told)

pub expanded_spec : {M : Type 1} → statement M
expanded_spec =
    tie.close
    (tie.spec (λ c. fit (fast c.args.f.speed.x (speed c.before.before.before.before).x) (lit< tt))
    (λ c. fit (fast c.args.f.speed.y (speed c.before.before.before.before.before.before).y) (lit< tt))
    (λ c. fit (fast c.args.f.speed.z (speed c.before.before.before.before.before.before.before.before).z) (lit< tt))
    mul-t8 mul-t9 add-t10 mul-t11 mul-t12 add-t13 mul-t14 mul-t15 add-t16 returns)

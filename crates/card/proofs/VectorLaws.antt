-- Three machine numbers that stand for a vector's: sums, differences and multiples that fit in 64 bits.
use mathlib.Core.Path.{◌≡◌}
use Prim.Native.Nat.{ℕ, ◌^◌, ◌≤◌, ◌<◌}
use lib.Dec.{T, lit<}
use lib.IntN.{ℤ, nat_abs, ◌+ℤ◌, ◌-ℤ◌, ◌*ℤ◌}
use Rattle.algebra.proofs.Machine.{Va, plain, at, v+, v-, v*, rd}
use Rattle.mark.specs.declared.Vec3.{Vec3}
use Rattle.mark.specs.Mark.{vec, plus, minus, scaled, sized}
use Rattle.mark.proofs.LengthLaws.{vec≡}
use Rattle.mark.proofs.SizeLaws.{sized-within}

pub record Three (a b c : ℤ) (v : Vec3) (n : ℕ) : Type 0 where
  pub x : Va a v.x n
  pub y : Va b v.y n
  pub z : Va c v.z n

-- stored and read back, they are the vector
pub stored : {x y z : ℤ} {v : Vec3} {n : ℕ} → Three x y z v n → n < 2 ^ 63 → vec (rd x) (rd y) (rd z) ≡ v
stored t h = vec≡ (at t.x h).told (at t.y h).told (at t.z h).told

-- a vector's own numbers, read back
read : (n : ℕ) (v : Vec3) → T (sized n v) → n < 2 ^ 63 → Three (rd v.x) (rd v.y) (rd v.z) v n
read n v t h =
    let w = sized-within n v t in
    record { x = at (plain v.x w.x) h; y = at (plain v.y w.y) h; z = at (plain v.z w.z) h }

module _ (v w : Vec3) (h : T (sized 4000000000000000000 v)) (k : T (sized 4000000000000000000 w)) where
  pub sums : Three (rd v.x +ℤ rd w.x) (rd v.y +ℤ rd w.y) (rd v.z +ℤ rd w.z) (plus v w) 8000000000000000000
  unfolding plus
  sums = let a = read 4000000000000000000 v h (lit< tt) in let b = read 4000000000000000000 w k (lit< tt) in record { x = v+ a.x b.x; y = v+ a.y b.y; z = v+ a.z b.z }

  pub differences : Three (rd v.x -ℤ rd w.x) (rd v.y -ℤ rd w.y) (rd v.z -ℤ rd w.z) (minus v w) 8000000000000000000
  unfolding minus
  differences = let a = read 4000000000000000000 v h (lit< tt) in let b = read 4000000000000000000 w k (lit< tt) in record { x = v- a.x b.x; y = v- a.y b.y; z = v- a.z b.z }

pub multiples : (k : ℤ) (v : Vec3) → nat_abs k ≤ 1000000 → T (sized 1000000000000 v)
    → Three (rd k *ℤ rd v.x) (rd k *ℤ rd v.y) (rd k *ℤ rd v.z) (scaled k v) 1000000000000000000
unfolding scaled
multiples k v h t =
    let a = at (plain k h) (lit< tt) in
    let b = read 1000000000000 v t (lit< tt) in
    record { x = v* a b.x; y = v* a b.y; z = v* a b.z }

-- Three numbers of a size, and the sizes of sums, differences and multiples.
use mathlib.Core.Path.{◌≡◌, subst⁻¹}
use mathlib.Core.Bool.{true, ◌&&◌}
use Prim.Native.Nat.{ℕ, ◌+◌, ◌*◌, ◌≤◌}
use native.Mathlib.Omega.{arith}
use borrow.Author.Tests.{leb-true, le-leb}
use lib.Dec.{T, leb}
use lib.IntN.{ℤ, nat_abs}
use Rattle.algebra.proofs.BoolLaws.{holds, passes, both}
use Rattle.algebra.proofs.IntLaws.{abs-+}
use Rattle.algebra.proofs.Machine.{plain, v-, v*}
use Rattle.mark.specs.declared.Vec3.{Vec3}
use Rattle.mark.specs.Mark.{plus, sized, minus, scaled}
use Rattle.mark.specs.Ranges.{Within}
use Rattle.mark.proofs.LengthLaws.{widen}

-- ---- three numbers of a size

pub sized-is : (n : ℕ) (v : Vec3) → sized n v ≡ true → Within n v
unfolding sized
sized-is n v e =
    let z = both (leb (nat_abs v.x) n && leb (nat_abs v.y) n) (leb (nat_abs v.z) n) e in
    let y = both (leb (nat_abs v.x) n) (leb (nat_abs v.y) n) z.0 in
    record {
      x = leb-true (nat_abs v.x) n y.0;
      y = leb-true (nat_abs v.y) n y.1;
      z = leb-true (nat_abs v.z) n z.1;
    }

pub is-sized : (n : ℕ) (v : Vec3) → Within n v → sized n v ≡ true
unfolding sized
is-sized n v w = rw (le-leb (nat_abs v.x) n w.x, le-leb (nat_abs v.y) n w.y, le-leb (nat_abs v.z) n w.z)

pub sized-within : (n : ℕ) (v : Vec3) → T (sized n v) → Within n v
sized-within n v t = sized-is n v (holds (sized n v) t)

pub within-sized : {n : ℕ} {v : Vec3} → Within n v → T (sized n v)
within-sized {n} {v} w = passes (is-sized n v w)

-- the same of a vector under another name
pub sized-as : {k n : ℕ} {v w : Vec3} → v ≡ w → Within k w → k ≤ n → T (sized n v)
sized-as {n = n} e w h = subst⁻¹ (λ (u : Vec3). T (sized n u)) e (within-sized (widen w h))

-- ---- sums, differences, multiples

pub plus-small : (n m : ℕ) (v w : Vec3) → Within n v → Within m w → Within (n + m) (plus v w)
unfolding plus
plus-small n m v w h k =
    record {
      x = omega (arith, abs-+ v.x w.x, h.x, k.x);
      y = omega (arith, abs-+ v.y w.y, h.y, k.y);
      z = omega (arith, abs-+ v.z w.z, h.z, k.z);
    }

pub minus-within : {n m : ℕ} {v w : Vec3} → Within n v → Within m w → Within (n + m) (minus v w)
unfolding minus
minus-within {n} {m} {v} {w} h k =
    record {
      x = (v- (plain v.x h.x) (plain w.x k.x)).small;
      y = (v- (plain v.y h.y) (plain w.y k.y)).small;
      z = (v- (plain v.z h.z) (plain w.z k.z)).small;
    }

pub plus-within : {n m : ℕ} {v w : Vec3} → Within n v → Within m w → Within (n + m) (plus v w)
plus-within {n} {m} {v} {w} h k = plus-small n m v w h k

pub scaled-within : {n m : ℕ} (k : ℤ) {v : Vec3} → nat_abs k ≤ n → Within m v → Within (n * m) (scaled k v)
unfolding scaled
scaled-within {n} {m} k {v} h w =
    record {
      x = (v* (plain k h) (plain v.x w.x)).small;
      y = (v* (plain k h) (plain v.y w.y)).small;
      z = (v* (plain k h) (plain v.z w.z)).small;
    }

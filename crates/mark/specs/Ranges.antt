-- What private steps ask of three numbers, so that nothing on the way leaves 64 bits.
use Rattle.std.specs.Prelude.{ℕ, ◌≤◌, nat_abs}
use Rattle.mark.specs.declared.Vec3.{Vec3}

-- each component is at most n in size
pub record Within (n : ℕ) (v : Vec3) : Type 0 where
  pub x : nat_abs v.x ≤ n
  pub y : nat_abs v.y ≤ n
  pub z : nat_abs v.z ≤ n

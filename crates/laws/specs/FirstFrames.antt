-- A and B as they were before the older frames came, without rotations: what codes 0 to 2 have kept.
use Rattle.std.specs.Prelude.{ℕ, ℤ, pos, ◌+ℤ◌, ◌*ℤ◌}
use Rattle.numbers.specs.Near.{near}
use Rattle.mark.specs.declared.Vec3.{Vec3}
use Rattle.frames.specs.Frame.{row_of}
use Rattle.frames.specs.Lines.{threefold}

-- A = 146,100 T + near(1,461 D m/100,000), grains
unfoldable pub first_offset : ℤ → ℤ → ℤ → ℤ
first_offset t d m = pos 146100 *ℤ t +ℤ near (pos 1461 *ℤ d *ℤ m) 100000

-- B = 100 T + near(D m/100,000) with the rates, grains a quarter-day
unfoldable pub first_drift : ℤ → ℤ → ℤ → ℤ
first_drift t d m = pos 100 *ℤ t +ℤ near (d *ℤ m) 100000

unfoldable pub first_a : ℕ → Vec3 → Vec3
first_a code m = threefold first_offset (row_of code).at m

unfoldable pub first_b : ℕ → Vec3 → Vec3
first_b code m = threefold first_drift (row_of code).rates m

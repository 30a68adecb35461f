-- The rows of codes 0 to 2 turn nothing.
use mathlib.Core.Path.{◌≡◌, refl}
use Prim.Native.Nat.{ℕ, zero, suc, ◌≤◌}
use native.Mathlib.Omega.{arith}
use Rattle.mark.specs.Mark.{nowhere}
use Rattle.frames.specs.Frame.{row_of}

pub still : (g : ℕ) → g ≤ 2 → ((row_of g).at.r ≡ nowhere) × ((row_of g).rates.r ≡ nowhere)
unfolding row_of
still zero h = (refl, refl)
still (suc zero) h = (refl, refl)
still (suc (suc zero)) h = (refl, refl)
still (suc (suc (suc g))) h = absurd (omega arith)

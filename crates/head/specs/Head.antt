-- The checks 2 to 6, which a card and a field record share, in the paper's order: site, frame, byte 10, epoch, mark.
use Rattle.std.specs.Prelude.{Bool, true, not, cond, ◌&&◌, ◌||◌, List, [], ◌∷◌, ℕ, zero, suc, ◌+◌, leb, eqb, length, get_or, ℤ, nat_abs}
use Rattle.refusal.specs.Refusal.{Table}
use Rattle.mark.specs.declared.Vec3.{Vec3}
use Rattle.mark.specs.Mark.{between, marked}
use Rattle.frames.specs.Frame.{known_frame}

-- a digit, `0` to `9`
unfoldable pub digit : ℕ → Bool
digit b = between 48 57 b

-- the DOMES shape: byte 5 is `M` or `S`, every other of the nine is a digit
unfoldable pub shape_at : ℕ → ℕ → Bool
shape_at i b = cond (eqb i 5) (eqb b 77 || eqb b 83) (digit b)

-- the k bytes from byte i on
unfoldable pub shape_from : List ℕ → ℕ → ℕ → Bool
shape_from s i zero = true
shape_from s i (suc k) = shape_at i (get_or s i 0) && shape_from s (i + 1) k

unfoldable pub site_shape : List ℕ → Bool
site_shape s = eqb (length s) 9 && shape_from s 0 9

-- quarter-days from 2000.0
unfoldable pub epoch_fits : ℤ → Bool
epoch_fits e = leb (nat_abs e) 146100

-- the table of the paper from 2 to 6; `fits` is the answer for 4
abbrev pub head_checks : List ℕ → ℕ → Bool → ℤ → Vec3 → Table
head_checks site frame fits epoch mark =
    (2, not (site_shape site)) ∷ (3, not (known_frame frame)) ∷ (4, not fits) ∷ (5, not (epoch_fits epoch)) ∷ (6, not (marked mark)) ∷ []

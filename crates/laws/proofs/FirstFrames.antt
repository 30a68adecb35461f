-- Codes 0 to 2 keep every value that they had: their rows turn nothing, and without rotation A and B are the first formulas.
use mathlib.Core.List.{[], ◌∷◌}
use mathlib.Core.Path.{◌≡◌, sym, ap, ◌∙◌}
use Prim.Native.Nat.{ℕ, ◌≤◌}
use lib.IntN.{ℤ, pos, ◌+ℤ◌, ◌*ℤ◌}
use Rattle.algebra.proofs.Ring.{by-ring, quote}
use Rattle.numbers.specs.Near.{near}
use Rattle.mark.specs.declared.Vec3.{Vec3}
use Rattle.frames.specs.Frame.{row_of, offset, drift, frame_a, frame_b}
use Rattle.frames.specs.Lines.{straight}
use Rattle.frames.proofs.LineLaws.{term-offset, term-drift, term-straight, unturned}
use Rattle.laws.specs.FirstFrames.{first_offset, first_drift, first_a, first_b}
use Rattle.laws.proofs.StillRows.{still}

-- ---- one component

offset-unturned : (t d m : ℤ) → offset t d m (pos 0) ≡ first_offset t d m
unfolding straight first_offset
offset-unturned t d m = sym (term-offset t d m (pos 0)) ∙ term-straight (pos 1461) t d m

drift-unturned : (t d m : ℤ) → drift t d m (pos 0) ≡ first_drift t d m
unfolding straight first_drift
drift-unturned t d m =
    let once : pos 1 *ℤ d *ℤ m ≡ d *ℤ m = by-ring (d ∷ m ∷ []) (search quote depth 30) tt in
    sym (term-drift t d m (pos 0)) ∙ term-straight (pos 1) t d m ∙ ap (λ (z : ℤ). pos 100 *ℤ t +ℤ near z 100000) once

-- ---- codes 0 to 2

module _ (g : ℕ) (h : g ≤ 2) (m : Vec3) where
  pub a-kept : frame_a g m ≡ first_a g m
  unfolding frame_a first_a
  a-kept = unturned offset first_offset offset-unturned (row_of g).at m (still g h).0

  pub b-kept : frame_b g m ≡ first_b g m
  unfolding frame_b first_b
  b-kept = unturned drift first_drift drift-unturned (row_of g).rates m (still g h).1

-- A position past 10^16 grains is near no accepted mark.
use Rattle.std.proofs.Common.{rules, ◌≡◌, refl, sym, ◌∙◌, Bool, true, false, T, lit≤}
use native.Mathlib.Nat.{le_trans}
use Rattle.mark.specs.declared.Vec3.{Vec3}
use Rattle.mark.specs.Mark.{sized}
use Rattle.mark.proofs.SizeLaws.{sized-within, is-sized}
use Rattle.card.specs.Checks.{position_fits}
use Rattle.card.proofs.CheckLaws.{position-small}
use Rattle.card.proofs.checks.position_fits.Goals as goal

-- a near position is small, so one that is not small is not near
far : (m p : Vec3) (t : Bool) → T (sized 6400000 m) → sized 10000000000000000 p ≡ false → position_fits m p ≡ t → false ≡ t
far m p false h e q = refl
far m p true h e q =
    let w = position-small m p (sized-within 6400000 m h) q in
    sym e ∙ is-sized 10000000000000000 p (record { x = le_trans w.x (lit≤ tt); y = le_trans w.y (lit≤ tt); z = le_trans w.z (lit≤ tt) })

pub returns-then-sized : goal.returns-then-sized
unfolding position_fits
returns-then-sized c = search rules

pub returns-else-sized : goal.returns-else-sized
returns-else-sized c =
    let e : sized 10000000000000000 c.args.p ≡ false = search rules in
    c.sized.ensures ∙ e ∙ far c.args.m c.args.p (position_fits c.args.m c.args.p) c.requires e refl

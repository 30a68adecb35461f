-- The permanent shift: an accepted mark as the steps ask for it, how large the shift is, and what is answered at an accepted mark.
use mathlib.Core.Path.{◌≡◌, refl, ap, ◌∙◌}
use mathlib.Core.Bool.{true}
use Prim.Native.Nat.{◌^◌, ◌≤◌}
use lib.Dec.{lit≤}
use lib.IntN.{ℤ, pos, negsuc, nat_abs, ◌+ℤ◌, ◌-ℤ◌, ◌*ℤ◌}
use Rattle.algebra.proofs.Machine.{plain, lit, v+, v-, v*}
use Rattle.std.specs.Prelude.{Err}
use Rattle.refusal.specs.declared.Refusal.{Refusal}
use Rattle.refusal.specs.Answered.{Answered, answered}
use Rattle.refusal.proofs.AnsweredLaws.{some}
use Rattle.mark.specs.declared.Vec3.{Vec3}
use Rattle.mark.specs.Mark.{nowhere, length_of, marked}
use Rattle.mark.specs.Ranges.{Within}
use Rattle.mark.proofs.LengthLaws.{widen, at_least}
use Rattle.mark.proofs.MarkLaws.{accepted-within, number-marked}
use Rattle.tides.specs.Direction.{units, E, legendre}
use Rattle.tides.specs.Permanent.{permanent, permanent_answer, s2, latitude, small, radial, north, down, across, along, permanent_of}
use Rattle.tides.specs.Steps.{Direction}
use Rattle.tides.proofs.DirectionLaws.{mark-direction, direction-within}
use Rattle.tides.proofs.StepLaws.{times-bound, legendre-bound}

-- as `units` asks for it
pub accepted-wide : (m : Vec3) → marked m ≡ true → Within 1073741823 m
accepted-wide m e = widen (accepted-within m e) (lit≤ tt)

-- its unit vector
pub accepted-direction : (m : Vec3) → marked m ≡ true → Direction (units (length_of m) m)
unfolding marked
accepted-direction m e = mark-direction (length_of m) m refl (at_least 6300000 6400000 (length_of m) e)

-- ---- how large it is

module _ (u : Vec3) (w : Within E u) where
  s-small : nat_abs (s2 u.z) ≤ E
  unfolding s2
  s-small = times-bound u.z u.z E E E w.z w.z (lit≤ tt)

  p-small : nat_abs (legendre (s2 u.z)) ≤ 2 ^ 31
  p-small = legendre-bound (s2 u.z) E (2 ^ 31) s-small (lit≤ tt)

  e-small : nat_abs (small (legendre (s2 u.z))) ≤ 292200
  unfolding small
  e-small = times-bound (pos 146100) (legendre (s2 u.z)) 146100 (2 ^ 31) 292200 (lit≤ tt) p-small (lit≤ tt)

  a_small : nat_abs (radial (small (legendre (s2 u.z))) (legendre (s2 u.z))) ≤ 352977600
  unfolding radial
  a_small =
      times-bound (small (legendre (s2 u.z)) -ℤ pos 176196600) (legendre (s2 u.z)) 176488800 (2 ^ 31) 352977600
      (v- (plain (small (legendre (s2 u.z))) e-small) (lit 176196600)).small
      p-small (lit≤ tt)

  t-small : nat_abs (north (small (legendre (s2 u.z)))) ≤ 37109400
  unfolding north
  t-small = (v- {n = 36817200} (plain (negsuc 36817199) (lit≤ tt)) (plain (small (legendre (s2 u.z))) e-small)).small

  w-small : nat_abs (down (north (small (legendre (s2 u.z)))) (s2 u.z)) ≤ 37109400
  unfolding down
  w-small = times-bound (north (small (legendre (s2 u.z)))) (s2 u.z) 37109400 E 37109400 t-small s-small (lit≤ tt)

  pub shift-within : Within 600000000 (permanent_of u)
  unfolding permanent_of latitude across along
  shift-within =
      let s : ℤ = s2 u.z in
      let p : ℤ = legendre s in
      let e : ℤ = small p in
      let a : ℤ = radial e p in
      let t : ℤ = north e in
      let d : ℤ = down t s in
      let level : nat_abs (a -ℤ pos 2 *ℤ d) ≤ 427196400 = (v- (plain a a_small) (v* (lit 2) (plain d w-small))).small in
      let steep : nat_abs (a +ℤ pos 2 *ℤ t -ℤ pos 2 *ℤ d) ≤ 501415200 = (v- (v+ (plain a a_small) (v* (lit 2) (plain t t-small))) (v* (lit 2) (plain d w-small))).small in
      record {
        x = times-bound (a -ℤ pos 2 *ℤ d) u.x 427196400 E 600000000 level w.x (lit≤ tt);
        y = times-bound (a -ℤ pos 2 *ℤ d) u.y 427196400 E 600000000 level w.y (lit≤ tt);
        z = times-bound (a +ℤ pos 2 *ℤ t -ℤ pos 2 *ℤ d) u.z 501415200 E 600000000 steep w.z (lit≤ tt);
      }

pub permanent-within : (m : Vec3) → Within 600000000 (permanent m)
unfolding permanent
permanent-within m = shift-within (units (length_of m) m) (direction-within (length_of m) m refl)

-- ---- what is answered at an accepted mark

pub shift_is : (m : Vec3) (s : Answered Vec3) → marked m ≡ true → s ≡ permanent_answer m → s.value ≡ permanent m
unfolding permanent_answer
shift_is m s e q = rw (q, e)

-- at an accepted mark the shift is never refused
pub shift-never : (m : Vec3) (e : Refusal) → marked m ≡ true → answered nowhere (Err e) ≡ permanent_answer m → ⊥
unfolding permanent_answer
shift-never m e h q = some e (ap (λ x. x.number) q ∙ number-marked m h)

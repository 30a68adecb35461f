-- What comes back of an exported card: site, frame, byte 10, epoch and mark as they were, no solid tide, each coordinate within 73,050 grains and
-- each velocity within 50. Of `near` only that it is off by at most a half.
use mathlib.Core.Path.{◌≡◌, refl, sym, subst}
use mathlib.Core.List.{List}
use Prim.Native.Nat.{ℕ, ◌*◌, ◌≤◌, ◌<◌}
use native.Mathlib.Omega.{arith}
use lib.Dec.{lit<}
use lib.ListN.{length}
use lib.IntN.{ℤ, pos, nat_abs, ◌+ℤ◌, ◌-ℤ◌, ◌*ℤ◌}
use Rattle.algebra.proofs.Difference.{split, ℤ⊖}
use Rattle.mark.specs.declared.Vec3.{Vec3}
use Rattle.mark.specs.Mark.{nowhere, plus, metre, minus, scaled}
use Rattle.card.specs.declared.Card.{Card}
use Rattle.card.specs.declared.Answer.{Answer}
use Rattle.card.specs.Checks.{from_mark}
use Rattle.field.specs.Field.{rounded_by, offset_of, speed_of, expanded_of, expand_card, export_number, exported}
use Rattle.field.proofs.PackLaws.{taken}
use Rattle.field.proofs.FieldLaws.{expand-exported}
use Rattle.numbers.specs.Near.{near}
use Rattle.numbers.proofs.NearLaws.{near-half}

-- three numbers differ by at most n each
pub record Close (n : ℕ) (v w : Vec3) : Type 0 where
  pub x : nat_abs (v.x -ℤ w.x) ≤ n
  pub y : nat_abs (v.y -ℤ w.y) ≤ n
  pub z : nat_abs (v.z -ℤ w.z) ≤ n

regroup : (a b p : ℤ) → a +ℤ b -ℤ p ≡ b -ℤ (p -ℤ a)
regroup a b p = rw (split a, split b, split p) (simp ℤ⊖ (omega arith))

half_of : (z : ℤ) (b h : ℕ) → b ≡ 2 * h → 0 < b → nat_abs (pos b *ℤ near z b -ℤ z) ≤ h
half_of z b h e p = omega (arith, (near-half z b p).off)

placed : (m p : ℤ) → nat_abs (pos metre *ℤ m +ℤ pos 146100 *ℤ near (p -ℤ pos metre *ℤ m) 146100 -ℤ p) ≤ 73050
placed m p =
    rw (regroup (pos metre *ℤ m) (pos 146100 *ℤ near (p -ℤ pos metre *ℤ m) 146100) p)
    (half_of (p -ℤ pos metre *ℤ m) 146100 73050 refl (lit< tt))

position-taken : (c : Card) → Close 73050 (expanded_of (taken c)).position c.position
unfolding expanded_of taken offset_of rounded_by from_mark minus scaled plus
position-taken c =
    record {
      x = placed c.mark.x c.position.x;
      y = placed c.mark.y c.position.y;
      z = placed c.mark.z c.position.z;
    }

velocity-taken : (c : Card) → Close 50 (expanded_of (taken c)).velocity c.velocity
unfolding expanded_of taken speed_of rounded_by scaled
velocity-taken c =
    record {
      x = half_of c.velocity.x 100 50 refl (lit< tt);
      y = half_of c.velocity.y 100 50 refl (lit< tt);
      z = half_of c.velocity.z 100 50 refl (lit< tt);
    }

-- what comes back of an exported card
pub record Returned (c d : Card) : Type 0 where
  pub site : d.site ≡ c.site
  pub frame : d.frame ≡ c.frame
  pub tide : d.tide ≡ c.tide
  pub epoch : d.epoch ≡ c.epoch
  pub mark : d.mark ≡ c.mark
  pub solid : d.solid ≡ nowhere
  pub position : Close 73050 d.position c.position
  pub velocity : Close 50 d.velocity c.velocity

returned-taken : (c : Card) → Returned c (expanded_of (taken c))
unfolding expanded_of taken
returned-taken c =
    record {
      site = refl;
      frame = refl;
      tide = refl;
      epoch = refl;
      mark = refl;
      solid = refl;
      position = position-taken c;
      velocity = velocity-taken c;
    }

-- `export`, then `expand`
pub returned-call : (c : Card) (out : List ℕ) → export_number c (length out) ≡ 0 → Returned c (expand_card (exported c out)).card
returned-call c out e = subst (λ (a : Answer). Returned c a.card) (sym (expand-exported c out e)) (returned-taken c)

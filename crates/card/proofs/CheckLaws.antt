-- What a card that passed its checks is: each check by itself, and how large each number can be; and the sizes of what the calls add.
use mathlib.Core.Path.{◌≡◌, refl, ap, sym, ◌∙◌}
use mathlib.Core.Bool.{Bool, true}
use Prim.Native.Nat.{◌≤◌}
use native.Mathlib.Omega.{arith}
use borrow.Author.Tests.{eqb-true, eq-eqb, not-false}
use lib.Dec.{eqb, lit<}
use lib.IntN.{ℤ, pos, nat_abs, ◌-ℤ◌, ◌*ℤ◌}
use Rattle.algebra.proofs.BoolLaws.{holds, passes}
use Rattle.algebra.proofs.IntLaws.{apart, abs-*}
use Rattle.std.specs.Prelude.{Result, Ok, Err}
use Rattle.refusal.specs.declared.Refusal.{Refusal}
use Rattle.refusal.specs.Answered.{number_of, answered}
use Rattle.refusal.proofs.AnsweredLaws.{some, only}
use Rattle.refusal.specs.Refusal.{first}
use Rattle.refusal.proofs.RefusalLaws.{positive, NoneHolds, accepted}
use Rattle.mark.specs.declared.Vec3.{Vec3}
use Rattle.mark.specs.Mark.{nowhere, marked, minus, scaled}
use Rattle.mark.specs.Ranges.{Within}
use Rattle.mark.proofs.MarkLaws.{accepted-within}
use Rattle.mark.proofs.SizeLaws.{sized-is}
use Rattle.frames.specs.Frame.{known_frame}
use Rattle.head.specs.Head.{site_shape, epoch_fits}
use Rattle.head.proofs.HeadLaws.{epoch-small}
use Rattle.card.specs.declared.Card.{Card}
use Rattle.card.specs.declared.Answer.{Answer}
use Rattle.card.specs.Zero.{answer_of}
use Rattle.card.specs.Checks.{tide_fits, velocity_fits, from_mark, position_fits, vector_fits, checks, card_number, Valid, offset_answer}

-- ---- a card that passed its checks

-- every check by itself
pub record Passed (c : Card) : Type 0 where
  pub site : site_shape c.site ≡ true
  pub frame : known_frame c.frame ≡ true
  pub tide : tide_fits c.tide c.solid ≡ true
  pub epoch : epoch_fits c.epoch ≡ true
  pub mark : marked c.mark ≡ true
  pub velocity : velocity_fits c.velocity ≡ true
  pub position : position_fits c.mark c.position ≡ true
  pub solid : vector_fits c.solid ≡ true

pub positive-checks : (zeros : Bool) (c : Card) → positive (checks zeros c) ≡ true
unfolding positive checks
positive-checks zeros c = refl

none-met : (c : Card) → card_number c ≡ 0 → NoneHolds (checks true c)
unfolding card_number
none-met c e = (accepted (checks true c) (positive-checks true c)).0 e

pub passed : (c : Card) → card_number c ≡ 0 → Passed c
unfolding checks
passed c e =
    let h = none-met c e in
    record {
      site = not-false (site_shape c.site) (h 0 (lit< tt));
      frame = not-false (known_frame c.frame) (h 1 (lit< tt));
      tide = not-false (tide_fits c.tide c.solid) (h 2 (lit< tt));
      epoch = not-false (epoch_fits c.epoch) (h 3 (lit< tt));
      mark = not-false (marked c.mark) (h 4 (lit< tt));
      velocity = not-false (velocity_fits c.velocity) (h 5 (lit< tt));
      position = not-false (position_fits c.mark c.position) (h 6 (lit< tt));
      solid = not-false (vector_fits c.solid) (h 7 (lit< tt));
    }

pub passed-number : (c : Card) → Passed c → card_number c ≡ 0
unfolding card_number checks first
passed-number c p = rw (p.site, p.frame, p.tide, p.epoch, p.mark, p.velocity, p.position, p.solid)

pub valid-number : (c : Card) → Valid c → card_number c ≡ 0
unfolding Valid
valid-number c v = eqb-true (card_number c) 0 (holds (eqb (card_number c) 0) v)

pub number-valid : (c : Card) → card_number c ≡ 0 → Valid c
unfolding Valid
number-valid c e = passes (eq-eqb (card_number c) 0 e)

pub valid-passed : (c : Card) → Valid c → Passed c
valid-passed c v = passed c (valid-number c v)

-- ---- how large its numbers are

-- a position within 1,000 m of a mark
near_mark : (m p : ℤ) → nat_abs (p -ℤ pos 1461000000 *ℤ m) ≤ 1461000000000 → nat_abs m ≤ 6400000 → nat_abs p ≤ 9351861000000000
near_mark m p h k = omega (arith, apart p (pos 1461000000 *ℤ m), abs-* (pos 1461000000) m)

pub velocity-small : (v : Vec3) → velocity_fits v ≡ true → Within 500000 v
unfolding velocity_fits
velocity-small v h = sized-is 500000 v h

pub vector-small : (v : Vec3) → vector_fits v ≡ true → Within 1461000000 v
unfolding vector_fits
vector-small v h = sized-is 1461000000 v h

pub offset-small : (m p : Vec3) → position_fits m p ≡ true → Within 1461000000000 (from_mark m p)
unfolding position_fits
offset-small m p h = sized-is 1461000000000 (from_mark m p) h

pub position-small : (m p : Vec3) → Within 6400000 m → position_fits m p ≡ true → Within 9351861000000000 p
unfolding from_mark minus scaled
position-small m p w h =
    let o = offset-small m p h in
    record {
      x = near_mark m.x p.x o.x w.x;
      y = near_mark m.y p.y o.y w.y;
      z = near_mark m.z p.z o.z w.z;
    }

pub record Small (c : Card) : Type 0 where
  pub epoch : nat_abs c.epoch ≤ 146100
  pub mark : Within 6400000 c.mark
  pub velocity : Within 500000 c.velocity
  pub position : Within 9351861000000000 c.position
  pub solid : Within 1461000000 c.solid

pub passed-small : (c : Card) → Passed c → Small c
passed-small c p =
    let m = accepted-within c.mark p.mark in
    record {
      epoch = epoch-small c.epoch p.epoch;
      mark = m;
      velocity = velocity-small c.velocity p.velocity;
      position = position-small c.mark c.position m p.position;
      solid = vector-small c.solid p.solid;
    }

pub valid-small : (c : Card) → Valid c → Small c
valid-small c v = passed-small c (valid-passed c v)

-- ---- where a card stands from its mark

pub offset-refused : (c : Card) (e : Refusal) → answered nowhere (Err e) ≡ offset_answer c → number_of e ≡ card_number c
unfolding offset_answer
offset-refused c e q = ap (λ x. x.number) q

pub offset-taken : (c : Card) (v : Vec3) → answered nowhere (Ok v) ≡ offset_answer c → (0 ≡ card_number c) × (v ≡ from_mark c.mark c.position)
unfolding offset_answer
offset-taken c v q =
    let n : 0 ≡ card_number c = ap (λ x. x.number) q in
    (n, ap (λ x. x.value) q ∙ rw (sym n) refl)

-- ---- a read, as the paper answers it

-- two reads that are told alike are the same
pub read-same : (r s : Result Card Refusal) → answer_of r ≡ answer_of s → r ≡ s
read-same (Ok a) (Ok b) h = ap Ok (ap (λ (x : Answer). x.card) h)
read-same (Ok a) (Err e) h = absurd (some e (sym (ap (λ (x : Answer). x.number) h)))
read-same (Err d) (Ok b) h = absurd (some d (ap (λ (x : Answer). x.number) h))
read-same (Err d) (Err e) h = ap Err (only d e (ap (λ (x : Answer). x.number) h))

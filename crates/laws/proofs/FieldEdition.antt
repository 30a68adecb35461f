-- The field edition of a card, whatever list both accept: the card expanded from the exported record stays within the field bound.
use mathlib.Core.Path.{◌≡◌, sym, ap, ◌∙◌, subst, subst⁻¹}
use mathlib.Core.Bool.{false}
use mathlib.Core.List.{List}
use Prim.Native.Nat.{ℕ, ◌≤◌}
use lib.Dec.{eqb}
use lib.ListN.{length}
use Rattle.algebra.proofs.IntLaws.{abs-swap}
use Rattle.mark.specs.declared.Vec3.{Vec3}
use Rattle.mark.specs.Ranges.{Within}
use Rattle.mark.specs.Mark.{minus}
use Rattle.head.specs.State.{state_of}
use Rattle.card.specs.declared.Card.{Card}
use Rattle.card.specs.declared.Answer.{Answer}
use Rattle.card.specs.Checks.{card_number, Valid}
use Rattle.card.specs.Calls.{Call}
use Rattle.card.proofs.CheckLaws.{number-valid}
use Rattle.field.specs.Field.{field_of, export_number, exported, opened_of, expanded_of, expand_card}
use Rattle.field.proofs.FieldLaws.{opened-field, number-field, number-expanded, export-accepted, expand-exported}
use Rattle.field.proofs.PackLaws.{taken}
use Rattle.field.proofs.ReturnLaws.{Close, Returned, returned-call}
use Rattle.laws.specs.Lists.{run, net, Accepted}
use Rattle.laws.specs.TwoCards.{Alike, Agree, between, half_unit, half_speed, field_bound}
use Rattle.laws.proofs.TwoCardLaws.{accepted-same}
use Rattle.laws.proofs.FieldBound.{stays-close-agreed, alike-unstored}

-- the card that comes back: exported into any lent buffer, and expanded
abbrev pub edition : Card → List ℕ → Card
edition c out = (expand_card (exported c out)).card

module _ (c : Card) (out : List ℕ) (h : export_number c (length out) ≡ 0) where
  pub edition-is : edition c out ≡ expanded_of (taken c)
  edition-is = ap (λ (a : Answer). a.card) (expand-exported c out h)

  number-c : card_number c ≡ 0
  number-c = (export-accepted c (length out) h).1

  no-solid : eqb (state_of c.tide) 2 ≡ false
  no-solid = (export-accepted c (length out) h).2

  pub edition-valid : Valid (edition c out)
  edition-valid =
      subst⁻¹ Valid (edition-is ∙ sym (ap expanded_of (opened-field c number-c)))
      (number-valid (expanded_of (opened_of (field_of c))) (number-expanded (field_of c) (number-field c number-c no-solid)))

  back : Returned c (edition c out)
  back = returned-call c out h

  pub edition-alike : Alike c (edition c out)
  edition-alike =
      alike-unstored c (edition c out) (number-valid c number-c) edition-valid (sym back.mark) (sym back.frame) (sym back.epoch) (sym back.tide) no-solid

within_of : (n : ℕ) (v w : Vec3) → Close n w v → Within n (minus v w)
unfolding minus
within_of n v w k =
    record {
      x = subst (λ (m : ℕ). m ≤ n) (abs-swap w.x v.x) k.x;
      y = subst (λ (m : ℕ). m ≤ n) (abs-swap w.y v.y) k.y;
      z = subst (λ (m : ℕ). m ≤ n) (abs-swap w.z v.z) k.z;
    }

-- for every card that can be exported, and every list of which each call is accepted by it and its edition or refused by both
pub edition-close :
    (c : Card) (out : List ℕ) (ks : List Call)
    → export_number c (length out) ≡ 0
    → Agree c (edition c out) ks
    → Within (field_bound (net c ks)) (between (run c ks) (run (edition c out) ks))
edition-close c out ks h e =
    stays-close-agreed half_unit half_speed c (edition c out) ks (edition-alike c out h) e
    (within_of half_unit c.position (edition c out).position (back c out h).position)
    (within_of half_speed c.velocity (edition c out).velocity (back c out h).velocity)

-- and so for every list that both accept in full
pub field-edition :
    (c : Card) (out : List ℕ) (ks : List Call)
    → export_number c (length out) ≡ 0
    → Accepted c ks
    → Accepted (edition c out) ks
    → Within (field_bound (net c ks)) (minus (run c ks).position (run (edition c out) ks).position)
field-edition c out ks h a a' = edition-close c out ks h (accepted-same c (edition c out) ks a a')

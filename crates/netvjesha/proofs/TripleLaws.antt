-- Outputs of three elements, metres and the permanent shift, and the packed answer of a series.
use mathlib.Core.Path.{◌≡◌, refl, sym, ap, ◌∙◌}
use mathlib.Core.List.{List, [], ◌∷◌}
use Prim.Native.Nat.{ℕ}
use lib.ListN.{length}
use lib.IntN.{ℤ}
use lib.Ieee.{Float}
use mir.Syntax.{w64}
use mir.Val.{SFits, to_z, of_z}
use mir.Facts.{to_z-of_z}
use Rattle.refusal.proofs.OutputLaws.{one, too_short, long-enough, takes}
use Rattle.mark.specs.declared.Vec3.{Vec3}
use Rattle.mark.specs.Mark.{vec, nowhere, mark_number}
use Rattle.std.specs.Prelude.{Ok, Err}
use Rattle.refusal.specs.declared.Refusal.{Refusal}
use Rattle.refusal.specs.Answered.{number_of, answered}
use Rattle.refusal.proofs.AnsweredLaws.{some}
use Rattle.mark.proofs.MarkLaws.{check-accepted}
use Rattle.tides.specs.Permanent.{permanent, permanent_answer}
use Rattle.tides.proofs.PermanentLaws.{shift_is}
use Rattle.series.specs.Series.{three}
use Rattle.card.specs.declared.Card.{Card}
use Rattle.card.specs.Checks.{card_number}
use Rattle.card.specs.Zero.{answer_of}
use Rattle.codec.specs.Codec.{decode, read_number, read_card}
use Rattle.codec.proofs.CodecLaws.{read-accepted}
use Rattle.field.specs.declared.Metres.{Metres}
use Rattle.field.specs.MetresOut.{no_metres, metres_of}
use Rattle.netvjesha.specs.Face.{three_metres, metres_number, metres_out, permanent_number, permanent_out}
use Rattle.netvjesha.proofs.FaceLaws.{number_read, read-zero, card-read, unchanged}

-- three numbers that fit 64 bits come back as they went in
pub back : {x y z : ℤ} → SFits w64 x → SFits w64 y → SFits w64 z → vec (to_z w64 (of_z w64 x)) (to_z w64 (of_z w64 y)) (to_z w64 (of_z w64 z)) ≡ vec x y z
back {x} {y} {z} f g h =
    ap (λ (v : ℤ). vec v (to_z w64 (of_z w64 y)) (to_z w64 (of_z w64 z))) (to_z-of_z f)
    ∙ ap (λ (v : ℤ). vec x v (to_z w64 (of_z w64 z))) (to_z-of_z g)
    ∙ ap (λ (v : ℤ). vec x y v) (to_z-of_z h)

-- ---- metres

module _ (s : List ℕ) (out : List Float) where
  pub metres-short : (length out ≡ 3 → ⊥) → (1 ≡ metres_number (length out) s) × (out ≡ metres_out out s)
  unfolding metres_number metres_out
  metres-short h = unchanged 1 _ _ out (too_short 3 (length out) (read_number s) h) one

  metres-is : length out ≡ 3 → read_number s ≡ metres_number (length out) s
  unfolding metres_number
  metres-is l = long-enough 3 (length out) (read_number s) l

  pub metres-unread : (d : Refusal) → length out ≡ 3 → answer_of (Err d) ≡ read_card s → (number_of d ≡ metres_number (length out) s) × (out ≡ metres_out out s)
  unfolding metres_out
  metres-unread d l r = unchanged (number_of d) _ _ out (number_read s d r ∙ metres-is l) (some d)

  module _ (c : Card) (r : answer_of (Ok c) ≡ read_card s) where
    -- a card that was read is accepted
    accepted : card_number c ≡ 0
    accepted = ap card_number (card-read s c r) ∙ (read-accepted s (sym (read-zero s c r))).card

    pub metres-never : (d : Refusal) → answered no_metres (Err d) ≡ metres_of c → ⊥
    unfolding metres_of
    metres-never d q = some d (ap (λ x. x.number) q ∙ accepted)

    pub metres-called : (m : Metres) → length out ≡ 3 → answered no_metres (Ok m) ≡ metres_of c
        → (0 ≡ metres_number (length out) s) × (m.x ∷ m.y ∷ m.z ∷ [] ≡ metres_out out s)
    unfolding metres_out three_metres
    metres-called m l f =
        let e : 0 ≡ metres_number (length out) s = read-zero s c r ∙ metres-is l in
        let g : m ≡ (metres_of (decode s)).value = ap (λ x. x.value) f ∙ ap (λ (x : Card). (metres_of x).value) (card-read s c r) in
        (e, ap three_metres g ∙ takes 0 (metres_number (length out) s) (three_metres (metres_of (decode s)).value) out e refl)

-- ---- the permanent shift

module _ (m : Vec3) (out : List ℤ) where
  pub permanent-short : (length out ≡ 3 → ⊥) → (1 ≡ permanent_number (length out) m) × (out ≡ permanent_out out m)
  unfolding permanent_number permanent_out
  permanent-short h = unchanged 1 _ _ out (too_short 3 (length out) (mark_number m) h) one

  permanent-is : length out ≡ 3 → mark_number m ≡ permanent_number (length out) m
  unfolding permanent_number
  permanent-is l = long-enough 3 (length out) (mark_number m) l

  pub permanent-unmarked : (d : Refusal) → length out ≡ 3 → answered nowhere (Err d) ≡ permanent_answer m → (number_of d ≡ permanent_number (length out) m) × (out ≡ permanent_out out m)
  unfolding permanent_out permanent_answer
  permanent-unmarked d l r = unchanged (number_of d) _ _ out (ap (λ x. x.number) r ∙ permanent-is l) (some d)

  pub permanent-called : (v : Vec3) → length out ≡ 3 → answered nowhere (Ok v) ≡ permanent_answer m
      → (0 ≡ permanent_number (length out) m) × (v.x ∷ v.y ∷ v.z ∷ [] ≡ permanent_out out m)
  unfolding permanent_out permanent_answer
  permanent-called v l r =
      let n : 0 ≡ mark_number m = ap (λ x. x.number) r in
      let e : 0 ≡ permanent_number (length out) m = n ∙ permanent-is l in
      let i : v ≡ permanent m = shift_is m (answered nowhere (Ok v)) (check-accepted m n) r in
      (e, ap three i ∙ takes 0 (permanent_number (length out) m) (three (permanent m)) out e refl)

-- The field bound over bytes: a record exported, expanded, and both put through one list of calls on bytes that both accept.
use mathlib.Core.Path.{◌≡◌, refl, sym, ◌∙◌, ap, subst⁻¹}
use mathlib.Core.List.{List, [], ◌∷◌}
use Prim.Native.Nat.{ℕ}
use lib.ListN.{length}
use Rattle.refusal.specs.Outputs.{before}
use Rattle.refusal.proofs.OutputLaws.{long-enough, takes, roomy-zero, before-zero}
use Rattle.octets.proofs.OctetLaws.{Bytes}
use Rattle.mark.specs.Ranges.{Within}
use Rattle.mark.specs.Mark.{minus}
use Rattle.card.specs.declared.Card.{Card}
use Rattle.card.specs.Calls.{step}
use Rattle.codec.specs.Codec.{card_length, encode, decode, read_number}
use Rattle.field.specs.declared.record.Opened.{Opened}
use Rattle.field.specs.Field.{field_length, field_of, export_number, field_number, opened_of, expanded_of}
use Rattle.field.proofs.FieldLaws.{opened-field, number-field, export-accepted}
use Rattle.netvjesha.specs.Face.{exported_number, exported_out, expanded_number, expanded_out}
use Rattle.laws.specs.Lists.{verdicts, numbers, net, Accepted}
use Rattle.laws.specs.ByteLists.{Lent, Roomy, calls_of, run_bytes, numbers_bytes, each}
use Rattle.laws.specs.TwoCards.{between, field_bound}
use Rattle.laws.specs.TwoRecords.{Together}
use Rattle.laws.proofs.FieldEdition.{edition, edition-is, edition-valid, edition-close}
use Rattle.laws.proofs.ByteTies.{Follows, read-follows, encoded-follows, agree, of-both}

-- a list whose numbers are all 0 is accepted in full
accepted-all : (c : Card) (ls : List Lent) → numbers c (calls_of ls) ≡ each 0 ls → Accepted c (calls_of ls)
unfolding numbers calls_of each Accepted
accepted-all c [] e = tt
accepted-all c (l ∷ ls) e = (ap (head 0) e, accepted-all (step c l.call).card ls (ap tail e))
  where
    head : ℕ → List ℕ → ℕ
    head d [] = d
    head d (n ∷ ns) = n

    tail : List ℕ → List ℕ
    tail [] = []
    tail (n ∷ ns) = ns

-- what a caller of C has after export and expand, each accepted: the bytes of the edition
module _ (s : List ℕ) (field out : List ℕ) (e : exported_number (length field) s ≡ 0) (o : length out ≡ card_length) where
  passed-export : (read_number s ≡ 0) × (export_number (decode s) (length field) ≡ 0)
  unfolding exported_number
  passed-export =
      let after : ℕ = export_number (decode s) (length field) in
      before-zero (read_number s) after (roomy-zero field_length (length field) (before (read_number s) after) e).1

  accepted-expand : (f : List ℕ) → field_number f ≡ 0 → expanded_number (length out) f ≡ 0
  unfolding expanded_number
  accepted-expand f n = sym (long-enough card_length (length out) (field_number f) o) ∙ n

  abbrev pub back : List ℕ
  back = expanded_out out (exported_out field s)

  back_is : back ≡ encode (edition (decode s) field)
  unfolding expanded_out exported_out
  back_is =
      let c : Card = decode s in
      let a = export-accepted c (length field) passed-export.1 in
      let n : field_number (field_of c) ≡ 0 = number-field c a.1 a.2 in
      ap (λ (r : List ℕ). expanded_out out r) (sym (takes 0 (exported_number (length field) s) (field_of c) field (sym e) refl))
      ∙ sym (takes 0 (expanded_number (length out) (field_of c)) (encode (expanded_of (opened_of (field_of c)))) out (sym (accepted-expand (field_of c) n)) refl)
      ∙ ap (λ (f : Opened). encode (expanded_of f)) (opened-field c a.1)
      ∙ ap encode (sym (edition-is c field passed-export.1))

  -- a record and the record that comes back, through one list that both accept, end within the bound of each other
  pub byte-edition :
      (ls : List Lent) → Bytes s → Roomy ls → numbers_bytes s ls ≡ each 0 ls → numbers_bytes back ls ≡ each 0 ls
      → Within (field_bound (net (decode s) (calls_of ls))) (minus (decode (run_bytes s ls)).position (decode (run_bytes back ls)).position)
  byte-edition ls b h a a' =
      let c : Card = decode s in
      let x : export_number c (length field) ≡ 0 = passed-export.1 in
      let f : Follows s c = read-follows s b passed-export.0 in
      let f' : Follows back (edition c field) = subst⁻¹ (λ (r : List ℕ). Follows r (edition c field)) back_is (encoded-follows (edition c field) (edition-valid c field x)) in
      let t : Together s back ls ls = record { roomy = h; roomy' = h; calls = refl; outcomes = ap verdicts (a ∙ sym a') } in
      of-both s back c (edition c field) f f' ls ls t
      (λ (d d' : Card). Within (field_bound (net c (calls_of ls))) (between d d'))
      (edition-close c field (calls_of ls) x (agree s back c (edition c field) f f' ls ls t))

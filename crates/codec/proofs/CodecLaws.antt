-- The card's card_length bytes: a written card is accepted and read as it was, and an accepted read is written as it was.
use mathlib.Core.Path.{◌≡◌, refl, sym, ap, ap₂, ◌∙◌}
use mathlib.Core.Bool.{Bool, true, ◌&&◌}
use mathlib.Core.List.{List, [], ◌∷◌, ◌++◌, append-nil}
use Prim.Native.Nat.{ℕ, ◌+◌}
use native.Mathlib.Omega.{arith}
use borrow.Author.Tests.{eq-eqb, eqb-true, not-false}
use lib.Dec.{eqb, lit<, lit≤}
use lib.ListN.{length, get_or, drop, length-append, take-append-drop}
use lib.Seq.{take_all}
use lib.IntN.{ℤ, pos}
use Rattle.algebra.proofs.BoolLaws.{and_left}
use Rattle.refusal.specs.Refusal.{first}
use Rattle.refusal.proofs.RefusalLaws.{positive, accepted, past-length, of_length}
use Rattle.octets.specs.Octets.{bytes_of, splice}
use Rattle.octets.proofs.OctetLaws.{Bytes, splice_all}
use Rattle.mark.specs.Mark.{vec}
use Rattle.mark.proofs.MarkLaws.{accepted-within}
use Rattle.layout.specs.Layout.{Fields, run, three, vector_at, first_twelve, spliced, headed}
use Rattle.layout.proofs.LayoutLaws.{widths, total, length_run, length-head, splice-run, splice-three, splice-head}
use Rattle.layout.proofs.RunLaws.{fields_at, Ranged, HeadOf, signed-size, ranged-three, read-run, write-run, read_head, write-head}
use Rattle.head.proofs.HeadLaws.{epoch-small, site-nine}
use Rattle.card.specs.declared.Card.{Card}
use Rattle.card.specs.Checks.{tide_fits, checks, card_number}
use Rattle.card.proofs.CheckLaws.{Passed, passed, velocity-small, vector-small}
use Rattle.card.proofs.ValidLaws.{position-size}
use Rattle.codec.specs.Codec.{card_length, card_fields, encode, decode, read_number, read_card, write_number, written}

-- ---- the card's fields

-- a card from its head and its fields
abbrev of_fields : List ℕ → ℕ → ℕ → Fields → Card
of_fields site frame tide fs =
    let at : ℕ → ℤ = λ k. (get_or fs k (0, pos 0)).1 in
    record {
      site = site;
      frame = frame;
      tide = tide;
      epoch = at 0;
      mark = vec (at 1) (at 2) (at 3);
      velocity = vec (at 4) (at 5) (at 6);
      position = vec (at 7) (at 8) (at 9);
      solid = vec (at 10) (at 11) (at 12);
    }

same-card : (c d : Card) → c.site ≡ d.site → c.frame ≡ d.frame → c.tide ≡ d.tide → card_fields c ≡ card_fields d → c ≡ d
unfolding card_fields
same-card c d p q r e = λ i. of_fields (p i) (q i) (r i) (e i)

-- the widths of bytes 12 to 87
abbrev card_widths : List ℕ
card_widths = 4 ∷ 4 ∷ 4 ∷ 4 ∷ 4 ∷ 4 ∷ 4 ∷ 8 ∷ 8 ∷ 8 ∷ 8 ∷ 8 ∷ 8 ∷ []

fields-decode : (s : List ℕ) → card_fields (decode s) ≡ fields_at s 12 card_widths
unfolding card_fields decode vector_at
fields-decode s = refl

widths-card : (c : Card) → widths (card_fields c) ≡ card_widths
unfolding card_fields
widths-card c = refl

pub length-encode : (c : Card) → length c.site ≡ 9 → length (encode c) ≡ card_length
unfolding encode card_fields
length-encode c e =
    length-append (first_twelve c.site c.frame c.tide) (run (card_fields c))
    ∙ ap₂ (λ (a b : ℕ). a + b) (length-head c.site c.frame c.tide e) (length_run (card_fields c))

-- the steps of the code, one field after the other
pub put-card : (s : List ℕ) (c : Card) → length s ≡ card_length → length c.site ≡ 9
    → spliced
    (spliced (spliced (spliced (splice (headed s c.site c.frame c.tide) 12 (bytes_of 4 c.epoch)) 16 4 c.mark) 28 4 c.velocity) 40 8 c.position)
    64
    8
    c.solid
    ≡ encode c
unfolding encode card_fields run splice
put-card s c l e =
    let h : List ℕ = headed s c.site c.frame c.tide in
    let a : List ℕ = splice h 12 (bytes_of 4 c.epoch) in
    let m : List ℕ = spliced a 16 4 c.mark in
    let v : List ℕ = spliced m 28 4 c.velocity in
    let p : List ℕ = spliced v 40 8 c.position in
    sym
    (splice-head s c.site c.frame c.tide (run (card_fields c)) e
    ∙ splice-run h 12 4 c.epoch (three 4 c.mark (three 4 c.velocity (three 8 c.position (three 8 c.solid []))))
    ∙ splice-three a 16 4 c.mark (three 4 c.velocity (three 8 c.position (three 8 c.solid [])))
    ∙ splice-three m 28 4 c.velocity (three 8 c.position (three 8 c.solid []))
    ∙ splice-three v 40 8 c.position (three 8 c.solid [])
    ∙ splice-three p 64 8 c.solid [])
    ∙ splice_all s (encode c) (length-encode c e ∙ sym l)

-- ---- what was written is read

-- every number of a card that passed its checks fits its width
ranged-card : (c : Card) → Passed c → Ranged (card_fields c)
unfolding card_fields
ranged-card c p =
    let solid : Fields = three 8 c.solid [] in
    let position : Fields = three 8 c.position solid in
    let velocity : Fields = three 4 c.velocity position in (
      lit≤ tt,
      signed-size 4 c.epoch 146100 (epoch-small c.epoch p.epoch) (lit< tt),
      ranged-three 4 c.mark 6400000 velocity (lit≤ tt) (accepted-within c.mark p.mark) (lit< tt)
          (ranged-three 4 c.velocity 500000 position (lit≤ tt) (velocity-small c.velocity p.velocity) (lit< tt)
          (ranged-three 8 c.position 10000000000000000 solid (lit≤ tt) (position-size c.mark c.position p.mark p.position) (lit< tt)
          (ranged-three 8 c.solid 1461000000 [] (lit≤ tt) (vector-small c.solid p.solid) (lit< tt) tt))),
    )

-- what stands in the bytes of a card
head-encode : (c : Card) → Passed c → HeadOf (encode c) c.site c.frame c.tide (run (card_fields c))
unfolding encode
head-encode c p = read_head c.site c.frame c.tide (run (card_fields c)) (site-nine c.site p.site)

pub decode-encode : (c : Card) → card_number c ≡ 0 → decode (encode c) ≡ c
unfolding decode
decode-encode c e =
    let p : Passed c = passed c e in
    let h : HeadOf (encode c) c.site c.frame c.tide (run (card_fields c)) = head-encode c p in
    same-card (decode (encode c)) c h.site-is h.frame_is h.tide-is
    (fields-decode (encode c)
    ∙ ap (fields_at (encode c) 12) (sym (widths-card c))
    ∙ read-run (encode c) [] 12 (card_fields c) (h.rest-is ∙ sym (append-nil (run (card_fields c)))) (ranged-card c p))

pub zero-encode : (c : Card) → card_number c ≡ 0 → get_or (encode c) 11 0 ≡ 0
zero-encode c e = (head-encode c (passed c e)).zero_is

pub number-encode : (c : Card) → card_number c ≡ 0 → read_number (encode c) ≡ 0
unfolding read_number card_number
number-encode c e =
    past-length (length (encode c)) card_length _ (length-encode c (site-nine c.site (passed c e).site))
    ∙ ap₂ (λ (b : Bool) (d : Card). first (checks b d)) (eq-eqb (get_or (encode c) 11 0) 0 (zero-encode c e)) (decode-encode c e)
    ∙ e

-- a written card is accepted, and is the card that was written
pub read-encode : (c : Card) → card_number c ≡ 0 → read_card (encode c) ≡ record { number = 0; card = c }
unfolding read_card
read-encode c e = rw (number-encode c e, decode-encode c e)

-- ---- what was read is written

pub encode-decode : (s : List ℕ) → length s ≡ card_length → Bytes s → get_or s 11 0 ≡ 0 → encode (decode s) ≡ s
unfolding encode decode
encode-decode s l b z =
    ap₂ (λ (x y : List ℕ). x ++ y)
    (write-head s (omega arith) z)
    (ap run (fields-decode s) ∙ write-run s 12 card_widths b (omega arith) ∙ take_all (total card_widths) (drop 12 s) (simp lib.ListN.length-drop (omega arith)))
    ∙ take-append-drop 12 s

-- what an accepted read says of its bytes
pub record Accepted (s : List ℕ) : Type 0 where
  pub long : length s ≡ card_length
  pub zeros : get_or s 11 0 ≡ 0
  pub card : card_number (decode s) ≡ 0

pub read-accepted : (s : List ℕ) → read_number s ≡ 0 → Accepted s
unfolding read_number card_number checks positive
read-accepted s e =
    let d : Card = decode s in
    let z : Bool = eqb (get_or s 11 0) 0 in
    let r : (length s ≡ card_length) × (first (checks z d) ≡ 0) = of_length (length s) card_length (checks z d) e in
    let none = (accepted (checks z d) refl).0 r.1 in
    let q : z ≡ true = and_left z (tide_fits d.tide d.solid) (not-false (z && tide_fits d.tide d.solid) (none 2 (lit< tt))) in
    record { long = r.0; zeros = eqb-true (get_or s 11 0) 0 q; card = ap (λ (b : Bool). first (checks b d)) (sym q) ∙ r.1 }

-- ---- the same of the two calls

pub write-accepted : (c : Card) (n : ℕ) → write_number c n ≡ 0 → (n ≡ card_length) × (card_number c ≡ 0)
unfolding write_number card_number
write-accepted c n e = of_length n card_length (checks true c) e

pub write-accepts : (c : Card) (n : ℕ) → n ≡ card_length → card_number c ≡ 0 → write_number c n ≡ 0
unfolding write_number card_number
write-accepts c n l e = past-length n card_length (checks true c) l ∙ e

-- `write`, then `read`: the card
pub read-written : (c : Card) (out : List ℕ) → write_number c (length out) ≡ 0 → read_card (written c out) ≡ record { number = 0; card = c }
unfolding written
read-written c out e = rw e (read-encode c (write-accepted c (length out) e).1)

-- `read`, then `write`: the bytes
pub written_read : (s out : List ℕ) → Bytes s → read_number s ≡ 0 → length out ≡ card_length → written (read_card s).card out ≡ s
unfolding written read_card
written_read s out b e l =
    let a : Accepted s = read-accepted s e in
    rw (e, write-accepts (decode s) (length out) l a.card) (encode-decode s a.long b a.zeros)

-- The field record as bytes: field_length of them, two zeros last. What was packed is opened again, and what was opened is packed again.
use mathlib.Core.Path.{◌≡◌, refl, sym, ap, ap₂, ◌∙◌}
use mathlib.Core.Bool.{Bool, true, ◌&&◌}
use mathlib.Core.List.{List, [], ◌∷◌, ◌++◌}
use Prim.Native.Nat.{ℕ, ◌+◌}
use native.Mathlib.Omega.{arith}
use borrow.Author.Tests.{eq-eqb, eqb-true}
use lib.Dec.{eqb}
use lib.ListN.{length, get_or, take, drop, length-append, length-drop, take-append-drop}
use lib.Seq.{take_all, take-add, drop-cons, drop-drop, get_or-drop}
use lib.IntN.{ℤ, pos}
use Rattle.algebra.proofs.BoolLaws.{and_left, and_right}
use Rattle.octets.specs.Octets.{bytes_of, splice}
use Rattle.octets.proofs.OctetLaws.{Bytes, splice_all, splice-append}
use Rattle.mark.specs.Mark.{vec}
use Rattle.layout.specs.Layout.{Fields, run, three, vector_at, first_twelve, spliced, headed}
use Rattle.layout.proofs.LayoutLaws.{length_run, length-head, splice-run, splice-three, splice-head}
use Rattle.layout.proofs.RunLaws.{fields_at, Ranged, HeadOf, read-run, read_past, write-run, read_head, write-head}
use Rattle.card.specs.declared.Card.{Card}
use Rattle.field.specs.declared.record.Opened.{Opened}
use Rattle.field.specs.Field.{field_length, offset_of, speed_of, field_of, opened_of, zero_bytes}

abbrev pub opened_fields : Opened → Fields
opened_fields f = (4, f.epoch) ∷ three 4 f.mark (three 4 f.offset (three 2 f.speed []))

abbrev field_widths : List ℕ
field_widths = 4 ∷ 4 ∷ 4 ∷ 4 ∷ 4 ∷ 4 ∷ 4 ∷ 2 ∷ 2 ∷ 2 ∷ []

abbrev pub ends : List ℕ
ends = 0 ∷ 0 ∷ []

-- what is held, as bytes
unfoldable pub packed : Opened → List ℕ
packed f = first_twelve f.site f.frame f.tide ++ (run (opened_fields f) ++ ends)

-- what an export holds of a card
unfoldable pub taken : Card → Opened
taken c =
    record {
      site = c.site;
      frame = c.frame;
      tide = c.tide;
      epoch = c.epoch;
      mark = c.mark;
      offset = offset_of c;
      speed = speed_of c;
    }

pub field-packed : (c : Card) → field_of c ≡ packed (taken c)
unfolding field_of packed taken
field-packed c = refl

pub length-packed : (f : Opened) → length f.site ≡ 9 → length (packed f) ≡ field_length
unfolding packed
length-packed f e =
    length-append (first_twelve f.site f.frame f.tide) (run (opened_fields f) ++ ends)
    ∙ ap₂ (λ (a b : ℕ). a + b)
    (length-head f.site f.frame f.tide e)
    (length-append (run (opened_fields f)) ends ∙ ap (λ (k : ℕ). k + 2) (length_run (opened_fields f)))

-- the steps of the code, one field after the other
pub put-field : (s : List ℕ) (f : Opened) → length s ≡ field_length → length f.site ≡ 9
    → splice
    (spliced (spliced (spliced (splice (headed s f.site f.frame f.tide) 12 (bytes_of 4 f.epoch)) 16 4 f.mark) 28 4 f.offset) 40 2 f.speed)
    46
    (0 ∷ 0 ∷ [])
    ≡ packed f
unfolding packed run splice
put-field s f l e =
    let h : List ℕ = headed s f.site f.frame f.tide in
    let a : List ℕ = splice h 12 (bytes_of 4 f.epoch) in
    let m : List ℕ = spliced a 16 4 f.mark in
    let o : List ℕ = spliced m 28 4 f.offset in
    sym
    (splice-head s f.site f.frame f.tide (run (opened_fields f) ++ ends) e
    ∙ splice-append h 12 (run (opened_fields f)) ends
    ∙ ap₂ (λ (t : List ℕ) (k : ℕ). splice t (12 + k) ends)
    (splice-run h 12 4 f.epoch (three 4 f.mark (three 4 f.offset (three 2 f.speed [])))
    ∙ splice-three a 16 4 f.mark (three 4 f.offset (three 2 f.speed []))
    ∙ splice-three m 28 4 f.offset (three 2 f.speed [])
    ∙ splice-three o 40 2 f.speed [])
    (length_run (opened_fields f)))
    ∙ splice_all s (packed f) (length-packed f e ∙ sym l)

-- ---- what was packed is opened

abbrev of_fields : List ℕ → ℕ → ℕ → Fields → Opened
of_fields site frame tide fs =
    let at : ℕ → ℤ = λ k. (get_or fs k (0, pos 0)).1 in
    record {
      site = site;
      frame = frame;
      tide = tide;
      epoch = at 0;
      mark = vec (at 1) (at 2) (at 3);
      offset = vec (at 4) (at 5) (at 6);
      speed = vec (at 7) (at 8) (at 9);
    }

same-opened : (f g : Opened) → f.site ≡ g.site → f.frame ≡ g.frame → f.tide ≡ g.tide → opened_fields f ≡ opened_fields g → f ≡ g
same-opened f g p q r e = λ i. of_fields (p i) (q i) (r i) (e i)

fields-opened : (s : List ℕ) → opened_fields (opened_of s) ≡ fields_at s 12 field_widths
unfolding opened_of vector_at
fields-opened s = refl

head-packed : (f : Opened) → length f.site ≡ 9 → HeadOf (packed f) f.site f.frame f.tide (run (opened_fields f) ++ ends)
unfolding packed
head-packed f e = read_head f.site f.frame f.tide (run (opened_fields f) ++ ends) e

pub opened_packed : (f : Opened) → length f.site ≡ 9 → Ranged (opened_fields f) → opened_of (packed f) ≡ f
unfolding opened_of
opened_packed f e r =
    let h = head-packed f e in
    same-opened (opened_of (packed f)) f h.site-is h.frame_is h.tide-is
    (fields-opened (packed f) ∙ read-run (packed f) ends 12 (opened_fields f) h.rest-is r)

ends-packed : (f : Opened) → length f.site ≡ 9 → drop 46 (packed f) ≡ ends
ends-packed f e = read_past (packed f) ends 12 (opened_fields f) (head-packed f e).rest-is

pub zeros-packed : (f : Opened) → length f.site ≡ 9 → zero_bytes (packed f) ≡ true
unfolding zero_bytes
zeros-packed f e =
    let d = ends-packed f e in
    rw (
      eq-eqb (get_or (packed f) 11 0) 0 (head-packed f e).zero_is,
      eq-eqb (get_or (packed f) 46 0) 0 (sym (get_or-drop 46 (packed f) 0 0) ∙ ap (λ (t : List ℕ). get_or t 0 0) d),
      eq-eqb (get_or (packed f) 47 0) 0 (sym (get_or-drop 46 (packed f) 1 0) ∙ ap (λ (t : List ℕ). get_or t 1 0) d),
    )

-- ---- what was opened is packed

pub packed-opened : (s : List ℕ) → length s ≡ field_length → Bytes s → zero_bytes s ≡ true → packed (opened_of s) ≡ s
unfolding packed opened_of zero_bytes
packed-opened s l b z =
    let p : Bool = eqb (get_or s 11 0) 0 in
    let q : Bool = eqb (get_or s 46 0) 0 in
    let r : Bool = eqb (get_or s 47 0) 0 in
    let e : get_or s 11 0 ≡ 0 = eqb-true (get_or s 11 0) 0 (and_left p q (and_left (p && q) r z)) in
    let f : get_or s 46 0 ≡ 0 = eqb-true (get_or s 46 0) 0 (and_right p q (and_left (p && q) r z)) in
    let g : get_or s 47 0 ≡ 0 = eqb-true (get_or s 47 0) 0 (and_right (p && q) r z) in
    ap₂ (λ (x y : List ℕ). x ++ y)
    (write-head s (omega arith) e)
    (ap₂ (λ (x y : List ℕ). x ++ y)
    (ap run (fields-opened s) ∙ write-run s 12 field_widths b (omega arith))
    (ap₂ (λ (x y : ℕ). x ∷ y ∷ []) (sym f) (sym g)
    ∙ ap (take 2) (sym (drop-cons s 46 0 (omega arith) ∙ ap (λ (t : List ℕ). get_or s 46 0 ∷ t) (drop-cons s 47 0 (omega arith))))
    ∙ ap (take 2) (sym (drop-drop 34 12 s)))
    ∙ sym (take-add 34 2 (drop 12 s))
    ∙ take_all 36 (drop 12 s) (simp length-drop (omega arith)))
    ∙ take-append-drop 12 s

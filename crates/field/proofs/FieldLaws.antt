-- The field record: what is exported is always accepted and read as it was rounded; what is expanded is always an accepted card, and exports to
-- the same bytes. Of `near` only its laws are used.
use mathlib.Core.Path.{◌≡◌, refl, sym, ap, ◌∙◌, subst}
use mathlib.Core.Bool.{Bool, true, false, ◌&&◌, ◌||◌}
use mathlib.Core.List.{List, [], ◌∷◌, ◌++◌}
use Prim.Native.Nat.{ℕ, ◌*◌, ◌≤◌, ◌<◌}
use native.Mathlib.Nat.{le_refl, mul-le-mul}
use native.Mathlib.Omega.{arith}
use borrow.Author.Tests.{eq-eqb, ne_eqb, leb-true, le-leb, not-false}
use lib.Dec.{eqb, leb, lit<, lit≤}
use lib.ListN.{length, get_or-append}
use lib.IntN.{ℤ, pos, nat_abs, ◌+ℤ◌, ◌-ℤ◌, ◌*ℤ◌, *ℤ_comm}
use Rattle.algebra.proofs.BoolLaws.{and_left, and_right}
use Rattle.algebra.proofs.Difference.{split, ℤ⊖}
use Rattle.algebra.proofs.IntLaws.{abs-*}
use Rattle.refusal.specs.Refusal.{Table, choose, first}
use Rattle.refusal.proofs.RefusalLaws.{holds_at, positive, accepted, onward, past-length, of_length}
use Rattle.octets.proofs.OctetLaws.{Bytes}
use Rattle.mark.specs.declared.Vec3.{Vec3}
use Rattle.mark.specs.Mark.{nowhere, marked, plus, metre, sized, minus, scaled}
use Rattle.mark.specs.Ranges.{Within}
use Rattle.mark.proofs.LengthLaws.{vec≡}
use Rattle.mark.proofs.MarkLaws.{accepted-within}
use Rattle.mark.proofs.SizeLaws.{sized-is, is-sized}
use Rattle.layout.specs.Layout.{Fields, three}
use Rattle.layout.proofs.RunLaws.{Ranged, signed-size, ranged-three}
use Rattle.frames.specs.Frame.{known_frame}
use Rattle.head.specs.State.{state_of}
use Rattle.head.specs.Head.{site_shape, epoch_fits}
use Rattle.head.proofs.HeadLaws.{epoch-small, site-nine}
use Rattle.head.proofs.StateLaws.{low_fits}
use Rattle.card.specs.declared.Card.{Card}
use Rattle.card.specs.Checks.{is_zero, tide_fits, velocity_fits, from_mark, position_fits, vector_fits, checks, card_number}
use Rattle.card.proofs.CheckLaws.{Passed, passed, passed-number, velocity-small, offset-small}
use Rattle.card.proofs.ValidLaws.{tide-low}
use Rattle.field.specs.declared.record.Opened.{Opened}
use Rattle.field.specs.Field.{field_length, rounded_by, offset_of, speed_of, field_of, opened_of, zero_bytes, opened_checks, field_number, expanded_of, expand_card, export_number, exported}
use Rattle.field.proofs.PackLaws.{opened_fields, packed, taken, field-packed, length-packed, opened_packed, zeros-packed, packed-opened}
use Rattle.numbers.specs.Near.{near}
use Rattle.numbers.proofs.NearLaws.{near-multiple, near-bound}

-- ---- the checks

-- what the checks of a field record say, one by one
pub record Held (f : Opened) : Type 0 where
  pub site : site_shape f.site ≡ true
  pub frame : known_frame f.frame ≡ true
  pub tide : leb f.tide 1 ≡ true
  pub epoch : epoch_fits f.epoch ≡ true
  pub mark : marked f.mark ≡ true
  pub speed : Within 5000 f.speed
  pub offset : Within 10000000 f.offset

pub record Accepted (s : List ℕ) : Type 0 where
  pub long : length s ≡ field_length
  pub zeros : zero_bytes s ≡ true
  pub held : Held (opened_of s)

pub field-accepted : (s : List ℕ) → field_number s ≡ 0 → Accepted s
unfolding field_number opened_checks positive
field-accepted s e =
    let f : Opened = opened_of s in
    let r : (length s ≡ field_length) × (first (opened_checks (zero_bytes s) f) ≡ 0) = of_length (length s) field_length (opened_checks (zero_bytes s) f) e in
    let none = (accepted (opened_checks (zero_bytes s) f) refl).0 r.1 in
    let q : zero_bytes s && leb f.tide 1 ≡ true = not-false (zero_bytes s && leb f.tide 1) (none 2 (lit< tt)) in
    record {
      long = r.0;
      zeros = and_left (zero_bytes s) (leb f.tide 1) q;
      held =
          record {
            site = not-false (site_shape f.site) (none 0 (lit< tt));
            frame = not-false (known_frame f.frame) (none 1 (lit< tt));
            tide = and_right (zero_bytes s) (leb f.tide 1) q;
            epoch = not-false (epoch_fits f.epoch) (none 3 (lit< tt));
            mark = not-false (marked f.mark) (none 4 (lit< tt));
            speed = sized-is 5000 f.speed (not-false (sized 5000 f.speed) (none 5 (lit< tt)));
            offset = sized-is 10000000 f.offset (not-false (sized 10000000 f.offset) (none 6 (lit< tt)));
          };
    }

pub field-admitted : (s : List ℕ) → Accepted s → field_number s ≡ 0
unfolding field_number opened_checks first
field-admitted s a =
    let f : Opened = opened_of s in
    let h : Held f = a.held in
    rw (
      eq-eqb (length s) field_length a.long,
      a.zeros,
      h.site,
      h.frame,
      h.tide,
      h.epoch,
      h.mark,
      is-sized 5000 f.speed h.speed,
      is-sized 10000000 f.offset h.offset,
    )

-- ---- what is exported always reads

pub offset-within : (c : Card) → position_fits c.mark c.position ≡ true → Within 10000000 (offset_of c)
unfolding offset_of rounded_by
offset-within c e =
    let a : Vec3 = from_mark c.mark c.position in
    let w : Within (1000 * metre) a = offset-small c.mark c.position e in
    record {
      x = near-bound a.x 146100 10000000 w.x;
      y = near-bound a.y 146100 10000000 w.y;
      z = near-bound a.z 146100 10000000 w.z;
    }

pub speed-within : (c : Card) → velocity_fits c.velocity ≡ true → Within 5000 (speed_of c)
unfolding speed_of rounded_by
speed-within c e =
    let w : Within 500000 c.velocity = velocity-small c.velocity e in
    record {
      x = near-bound c.velocity.x 100 5000 w.x;
      y = near-bound c.velocity.y 100 5000 w.y;
      z = near-bound c.velocity.z 100 5000 w.z;
    }

-- the numbers fit their widths
ranged-opened : (f : Opened) → epoch_fits f.epoch ≡ true → marked f.mark ≡ true → Within 10000000 f.offset → Within 5000 f.speed → Ranged (opened_fields f)
ranged-opened f e m o v =
    let speed : Fields = three 2 f.speed [] in
    let offset : Fields = three 4 f.offset speed in (
      lit≤ tt,
      signed-size 4 f.epoch 146100 (epoch-small f.epoch e) (lit< tt),
      ranged-three 4 f.mark 6400000 offset (lit≤ tt) (accepted-within f.mark m) (lit< tt)
          (ranged-three 4 f.offset 10000000 speed (lit≤ tt) o (lit< tt)
          (ranged-three 2 f.speed 5000 [] (lit≤ tt) v (lit< tt) tt)),
    )

held-taken : (c : Card) → Passed c → eqb (state_of c.tide) 2 ≡ false → Held (taken c)
unfolding taken
held-taken c p t =
    record {
      site = p.site;
      frame = p.frame;
      tide = le-leb c.tide 1 (tide-low c.tide c.solid p.tide t);
      epoch = p.epoch;
      mark = p.mark;
      speed = speed-within c p.velocity;
      offset = offset-within c p.position;
    }

-- an exported record holds what was taken of the card
pub opened-field : (c : Card) → card_number c ≡ 0 → opened_of (field_of c) ≡ taken c
unfolding taken
opened-field c e =
    let p : Passed c = passed c e in
    ap opened_of (field-packed c)
    ∙ opened_packed (taken c) (site-nine c.site p.site)
    (ranged-opened (taken c) p.epoch p.mark (offset-within c p.position) (speed-within c p.velocity))

-- and is accepted
pub number-field : (c : Card) → card_number c ≡ 0 → eqb (state_of c.tide) 2 ≡ false → field_number (field_of c) ≡ 0
unfolding taken
number-field c e t =
    let p : Passed c = passed c e in
    let n : length c.site ≡ 9 = site-nine c.site p.site in
    field-admitted (field_of c)
    (record {
      long = ap length (field-packed c) ∙ length-packed (taken c) n;
      zeros = ap zero_bytes (field-packed c) ∙ zeros-packed (taken c) n;
      held = subst (λ (f : Opened). Held f) (sym (opened-field c e)) (held-taken c p t);
    })

-- ---- what is expanded is an accepted card

scaled-within : (k n : ℕ) (v : Vec3) → Within n v → Within (k * n) (scaled (pos k) v)
unfolding scaled
scaled-within k n v w = record { x = part v.x w.x; y = part v.y w.y; z = part v.z w.z }
  where
    part : (z : ℤ) → nat_abs z ≤ n → nat_abs (pos k *ℤ z) ≤ k * n
    part z h = rw (abs-* (pos k) z) (mul-le-mul (le_refl k) h)

cancel : (a b : ℤ) → a +ℤ b -ℤ a ≡ b
cancel a b = rw (split a, split b) (simp ℤ⊖ (omega arith))

-- the distance from the mark is the offset again
pub from-expanded : (f : Opened) → from_mark f.mark (expanded_of f).position ≡ scaled (pos 146100) f.offset
unfolding from_mark minus scaled expanded_of plus
from-expanded f =
    vec≡
    (cancel (pos metre *ℤ f.mark.x) (pos 146100 *ℤ f.offset.x))
    (cancel (pos metre *ℤ f.mark.y) (pos 146100 *ℤ f.offset.y))
    (cancel (pos metre *ℤ f.mark.z) (pos 146100 *ℤ f.offset.z))

or-true : (b : Bool) → b || true ≡ true
or-true true = refl
or-true false = refl

tide-expanded : (byte : ℕ) → leb byte 1 ≡ true → tide_fits byte nowhere ≡ true
unfolding tide_fits is_zero sized
tide-expanded byte e = rw (low_fits byte (leb-true byte 1 e)).0 (or-true (eqb (state_of byte) 2))

pub passed-expanded : (f : Opened) → Held f → Passed (expanded_of f)
unfolding expanded_of velocity_fits position_fits vector_fits sized
passed-expanded f h =
    record {
      site = h.site;
      frame = h.frame;
      tide = tide-expanded f.tide h.tide;
      epoch = h.epoch;
      mark = h.mark;
      velocity = is-sized 500000 (scaled (pos 100) f.speed) (scaled-within 100 5000 f.speed h.speed);
      position = ap (sized (1000 * metre)) (from-expanded f) ∙ is-sized (1000 * metre) (scaled (pos 146100) f.offset) (scaled-within 146100 10000000 f.offset h.offset);
      solid = refl;
    }

tide-held : (f : Opened) → Held f → eqb (state_of (expanded_of f).tide) 2 ≡ false
unfolding expanded_of
tide-held f h = let l = (low_fits f.tide (leb-true f.tide 1 h.tide)).1 in ne_eqb (state_of f.tide) 2 (λ e. omega (arith, l))

pub number-expanded : (s : List ℕ) → field_number s ≡ 0 → card_number (expanded_of (opened_of s)) ≡ 0
number-expanded s e = passed-number (expanded_of (opened_of s)) (passed-expanded (opened_of s) (field-accepted s e).held)

-- ---- export of what was expanded gives the same bytes

rounded-scaled : (b : ℕ) (v : Vec3) → 0 < b → rounded_by b (scaled (pos b) v) ≡ v
unfolding rounded_by scaled
rounded-scaled b v h = vec≡ (part v.x) (part v.y) (part v.z)
  where
    part : (z : ℤ) → near (pos b *ℤ z) b ≡ z
    part z = ap (λ (y : ℤ). near y b) (*ℤ_comm (pos b) z) ∙ near-multiple z b h

pub offset-expanded : (f : Opened) → offset_of (expanded_of f) ≡ f.offset
unfolding offset_of expanded_of
offset-expanded f = ap (rounded_by 146100) (from-expanded f) ∙ rounded-scaled 146100 f.offset (lit< tt)

pub speed-expanded : (f : Opened) → speed_of (expanded_of f) ≡ f.speed
unfolding speed_of expanded_of
speed-expanded f = rounded-scaled 100 f.speed (lit< tt)

pub taken-expanded : (f : Opened) → taken (expanded_of f) ≡ f
unfolding taken expanded_of
taken-expanded f =
    let o : offset_of (expanded_of f) ≡ f.offset = offset-expanded f in
    let v : speed_of (expanded_of f) ≡ f.speed = speed-expanded f in
    λ i. record { site = f.site; frame = f.frame; tide = f.tide; epoch = f.epoch; mark = f.mark; offset = o i; speed = v i }

pub field-expanded : (s : List ℕ) → Bytes s → field_number s ≡ 0 → field_of (expanded_of (opened_of s)) ≡ s
field-expanded s b e =
    let a : Accepted s = field-accepted s e in
    field-packed (expanded_of (opened_of s)) ∙ ap packed (taken-expanded (opened_of s)) ∙ packed-opened s a.long b a.zeros

-- ---- the same of the two calls

-- the card's own checks and no solid tide
pub export-accepted : (c : Card) (n : ℕ) → export_number c n ≡ 0 → (n ≡ field_length) × (card_number c ≡ 0) × (eqb (state_of c.tide) 2 ≡ false)
unfolding export_number card_number checks positive first
export-accepted c n e =
    let own : Table = (12, eqb (state_of c.tide) 2) ∷ [] in
    let r : (n ≡ field_length) × (first (checks true c ++ own) ≡ 0) = of_length n field_length (checks true c ++ own) e in
    let none = (accepted (checks true c ++ own) refl).0 r.1 in
    (r.0, (accepted (checks true c) refl).1 (λ k l. front (checks true c) own k l ∙ none k (omega arith)), none 8 (lit< tt))
  where
    front : (t u : Table) (k : ℕ) → k < length t → holds_at t k ≡ holds_at (t ++ u) k
    front t u k l = ap (λ (x : ℕ × Bool). x.1) (sym (get_or-append t u (0, false) k l))

pub export-accepts : (c : Card) (n : ℕ) → n ≡ field_length → card_number c ≡ 0 → eqb (state_of c.tide) 2 ≡ false → export_number c n ≡ 0
unfolding export_number card_number checks positive first
export-accepts c n l e t =
    past-length n field_length (checks true c ++ ((12, eqb (state_of c.tide) 2) ∷ [])) l
    ∙ onward (checks true c) ((12, eqb (state_of c.tide) 2) ∷ []) refl e
    ∙ ap (λ (b : Bool). choose b 12 0) t

-- `export`, then `expand`: an accepted card, of what was taken
pub expand-exported : (c : Card) (out : List ℕ) → export_number c (length out) ≡ 0
    → expand_card (exported c out) ≡ record { number = 0; card = expanded_of (taken c) }
unfolding exported expand_card
expand-exported c out e =
    let a = export-accepted c (length out) e in
    rw (e, number-field c a.1 a.2, opened-field c a.1)

-- `expand`, then `export`: the bytes
pub exported-expand : (s out : List ℕ) → Bytes s → field_number s ≡ 0 → length out ≡ field_length → exported (expand_card s).card out ≡ s
unfolding exported expand_card
exported-expand s out b e l =
    rw (e, export-accepts (expanded_of (opened_of s)) (length out) l (number-expanded s e) (tide-held (opened_of s) (field-accepted s e).held)) (field-expanded s b e)

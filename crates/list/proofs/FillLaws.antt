-- What the listing's loop keeps: the text holds the lines of the parts passed, each at most a line long. Assumes nothing.
use mathlib.Core.Path.{◌≡◌, refl, sym, ap, ap₂, ◌∙◌}
use mathlib.Core.Bool.{Bool, true, false}
use mathlib.Core.List.{List, [], ◌++◌, append_assoc, append-nil}
use Prim.Native.Nat.{ℕ, ◌+◌, ◌-◌, ◌*◌, ◌/◌, ◌≤◌, ◌<◌, min}
use native.Mathlib.Omega.{arith}
use borrow.Author.Tests.{leb-true, leb-false}
use lib.Dec.{leb}
use lib.ListN.{length, take, drop, length-append, length-drop, drop_of_length-le}
use lib.Seq.{take_all, drop-drop, take-append-le, drop-append-le}
use Rattle.std.proofs.lemmas.List.{nil_from_length}
use borrow.Rule.Slice.PartMut.{mid_of, post_of, put_mid}
use Rattle.octets.specs.Octets.{splice}
use Rattle.octets.proofs.OctetLaws.{length-splice, splice-is, splice-append}
use Rattle.codec.specs.Codec.{card_length}
use Rattle.listing.specs.Line.{line_most, line_of}
use Rattle.listing.specs.Lines.{listing}
use Rattle.listing.proofs.LineLaws.{line-most}
use Rattle.listing.proofs.LinesLaws.{listing_none, listing-some}
use Rattle.list.specs.Batch.{input_most, output_most}

-- of the parts, `rest` is left, to be cut at `size`
pub record Filled (parts text₀ text : List ℕ) (filled size : ℕ) (rest : List ℕ) : Type 0 where
  pub cut : size ≡ card_length
  pub kept : length text ≡ length text₀
  pub room : filled + line_most * ((length rest + (card_length - 1)) / card_length) ≤ output_most
  -- the lines so far, where they stand, and what is left of the listing
  pub written : List ℕ
  pub count : filled ≡ length written
  pub holds : text ≡ splice text₀ 0 written
  pub left : written ++ listing rest ≡ listing parts

-- a part that was cut off: a card's length, or all that is left
pub record Cut (rest part rest' : List ℕ) (size : ℕ) : Type 0 where
  pub whole : rest ≡ part ++ rest'
  pub long : length part ≡ min size (length rest)
  pub some : 0 < length rest

-- at the start nothing is written
pub begun : {parts text₀ rest : List ℕ} {size : ℕ} → size ≡ card_length → rest ≡ parts → length parts ≤ input_most → Filled parts text₀ text₀ 0 size rest
unfolding splice
begun e r h =
    record {
      cut = e;
      kept = refl;
      room = let n = ap length r in omega (arith, n, h);
      written = [];
      count = refl;
      holds = refl;
      left = ap listing r;
    }

-- ---- a line is written

-- a line written into the rest of the text stands in the text
in_rest : (text : List ℕ) (filled : ℕ) (bs : List ℕ) → filled + length bs ≤ length text
    → put_mid filled (length text - filled) text (splice (mid_of filled (length text - filled) text) 0 bs) ≡ splice text filled bs
in_rest text filled bs h =
    let k : ℕ = length text - filled in
    let start : 0 + length bs ≡ length bs = omega arith in
    let whole : mid_of filled k text ≡ drop filled text = take_all k (drop filled text) (simp length-drop (omega arith)) in
    let none : post_of filled k text ≡ [] = drop_of_length-le (drop filled text) {i = k} (simp length-drop (omega arith)) in
    ap₂ (λ (m p : List ℕ). take filled text ++ (splice m 0 bs ++ p)) whole none
    ∙ ap (λ (r : List ℕ). take filled text ++ r)
    (append-nil (splice (drop filled text) 0 bs)
    ∙ splice-is (drop filled text) 0 bs (simp length-drop (omega arith))
    ∙ ap (λ (n : ℕ). bs ++ drop n (drop filled text)) start
    ∙ ap (λ (r : List ℕ). bs ++ r) (drop-drop (length bs) filled text))
    ∙ sym (splice-is text filled bs h)

-- what was cut off, and what is left, by the number at which the listing's definition cuts
record Apart (rest part rest' : List ℕ) : Type 0 where
  pub first : take card_length rest ≡ part
  pub last : drop card_length rest ≡ rest'

apart : (rest part rest' : List ℕ) → Cut rest part rest' card_length → Apart rest part rest'
apart rest part rest' p = by (leb card_length (length rest)) refl
  where
    n : length rest ≡ length part + length rest'
    n = ap length p.whole ∙ length-append part rest'

    by : (b : Bool) → leb card_length (length rest) ≡ b → Apart rest part rest'
    by true f =
        let l = leb-true card_length (length rest) f in
        let e : length part ≡ card_length = omega (arith, p.long) in
        record {
          first = ap (take card_length) p.whole ∙ take-append-le card_length part rest' (omega arith) ∙ take_all card_length part (omega arith);
          last =
              ap (drop card_length) p.whole ∙ drop-append-le card_length part rest' (omega arith)
              ∙ ap (λ (r : List ℕ). r ++ rest') (drop_of_length-le part {i = card_length} (omega arith));
        }
    by false f =
        let l = leb-false card_length (length rest) f in
        let none : rest' ≡ [] = nil_from_length rest' (omega (arith, p.long, n)) in
        let all : rest ≡ part = p.whole ∙ ap (λ (r : List ℕ). part ++ r) none ∙ append-nil part in
        record {
          first = take_all card_length rest (omega arith) ∙ all;
          last = drop_of_length-le rest {i = card_length} (omega arith) ∙ sym none;
        }

listing-cut : {rest part rest' : List ℕ} → Cut rest part rest' card_length → line_of part ++ listing rest' ≡ listing rest
listing-cut {rest} {part} {rest'} p =
    let a = apart rest part rest' p in
    ap₂ (λ (l r : List ℕ). line_of l ++ listing r) (sym a.first) (sym a.last) ∙ sym (listing-some rest p.some)

-- the part's line, as the call wrote it
pub record Wrote (text text' part : List ℕ) (filled r : ℕ) : Type 0 where
  pub size : r ≡ length (line_of part)
  pub short : r ≤ line_most
  pub put : text' ≡ splice text filled (line_of part)

-- what the call answered of the rest of the text, put back
pub wrote : {parts text₀ text rest part rest' out : List ℕ} {filled size r : ℕ} → output_most ≤ length text₀ → Filled parts text₀ text filled size rest → Cut rest part rest' size
    → r ≡ length (line_of part) → out ≡ splice (mid_of filled (length text - filled) text) 0 (line_of part)
    → Wrote text (put_mid filled (length text - filled) text out) part filled r
wrote {text = text} {part = part} {filled = filled} room p c e put =
    let short = line-most part in
    record {
      size = e;
      short = omega (arith, short);
      put = ap (put_mid filled (length text - filled) text) put ∙ in_rest text filled (line_of part) (omega (arith, short, p.room, p.kept, c.some));
    }

pub next : {parts text₀ text rest part rest' text' : List ℕ} {filled size size' r : ℕ} → Filled parts text₀ text filled size rest → Cut rest part rest' size → size' ≡ size
    → Wrote text text' part filled r → Filled parts text₀ text' (filled + r) size' rest'
next {text₀ = text₀} {rest = rest} {part = part} {rest' = rest'} {text' = text'} {filled = filled} p c s w =
    let line : List ℕ = line_of part in
    let there : filled ≡ 0 + length p.written = omega (arith, p.count) in
    let now : text' ≡ splice text₀ 0 (p.written ++ line) =
    w.put
    ∙ ap₂ (λ (t : List ℕ) (n : ℕ). splice t n line) p.holds there
    ∙ sym (splice-append text₀ 0 p.written line) in
    let cut : Cut rest part rest' card_length = record { whole = c.whole; long = c.long ∙ ap (λ (k : ℕ). min k (length rest)) p.cut; some = c.some } in
    let n : length rest ≡ length part + length rest' = ap length c.whole ∙ length-append part rest' in
    record {
      cut = s ∙ p.cut;
      kept = ap length now ∙ length-splice text₀ 0 (p.written ++ line);
      room = omega (arith, p.room, w.short, n, cut.long, c.some);
      written = p.written ++ line;
      count = ap₂ (λ (m n : ℕ). m + n) p.count w.size ∙ sym (length-append p.written line);
      holds = now;
      left = append_assoc p.written line (listing rest') ∙ ap (λ (l : List ℕ). p.written ++ l) (listing-cut cut) ∙ p.left;
    }

-- the loop is done: nothing is left
pub ended : {parts text₀ text rest : List ℕ} {filled size : ℕ} → length rest ≡ 0 → (p : Filled parts text₀ text filled size rest) → p.written ≡ listing parts
ended {rest = rest} h p =
    sym (append-nil p.written)
    ∙ ap (λ (l : List ℕ). p.written ++ l) (sym (listing_none rest h))
    ∙ p.left

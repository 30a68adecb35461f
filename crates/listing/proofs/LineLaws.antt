-- A line's text, how long it is, and which line a part has. Assumes nothing.
use mathlib.Core.Path.{◌≡◌, sym, ap, ◌∙◌}
use mathlib.Core.Bool.{Bool, true, false, cond}
use mathlib.Core.List.{List, [], ◌∷◌, ◌++◌, append_assoc}
use Prim.Native.Nat.{ℕ, ◌+◌, ◌*◌, ◌≤◌}
use native.Mathlib.Omega.{arith}
use borrow.Author.Tests.{ne_eqb}
use lib.Dec.{eqb}
use lib.ListN.{length, length-append, length-take}
use lib.IntN.{ℤ, pos}
use Rattle.std.specs.Prelude.{Ok, Err}
use Rattle.refusal.specs.declared.Refusal.{Refusal}
use Rattle.refusal.specs.Answered.{number_of}
use Rattle.refusal.proofs.AnsweredLaws.{some}
use Rattle.text.specs.Text.{spaced}
use Rattle.text.proofs.TextLaws.{integer-most}
use Rattle.card.specs.declared.Card.{Card}
use Rattle.card.specs.declared.Answer.{Answer}
use Rattle.card.specs.Zero.{answer_of}
use Rattle.codec.specs.Codec.{read_number, read_card, decode}
use Rattle.listing.specs.Line.{line_most, numbers, refused_word, refused_line, card_line, line_of}

-- ---- a line piece by piece

pub refused-text : (n : ℕ) → (refused_word ++ spaced (pos n)) ++ (10 ∷ []) ≡ refused_line n
unfolding refused_line numbers
refused-text n = append_assoc refused_word (spaced (pos n)) (10 ∷ [])

regroup : (s a b d e f g : List ℕ) → (((((s ++ a) ++ b) ++ d) ++ e) ++ f) ++ g ≡ s ++ (a ++ (b ++ (d ++ (e ++ (f ++ g)))))
regroup s a b d e f g = simp append_assoc

pub card-text : (c : Card)
    → (((((c.site ++ spaced (pos c.frame)) ++ spaced c.epoch) ++ spaced c.position.x) ++ spaced c.position.y) ++ spaced c.position.z) ++ (10 ∷ [])
    ≡ card_line c
unfolding card_line numbers
card-text c =
    regroup c.site (spaced (pos c.frame)) (spaced c.epoch) (spaced c.position.x) (spaced c.position.y) (spaced c.position.z) (10 ∷ [])

-- ---- the line of a part by what was read of it

pub line_refused : (s : List ℕ) (d : Refusal) (n : ℕ) → answer_of (Err d) ≡ read_card s → n ≡ number_of d → refused_line n ≡ line_of s
unfolding line_of read_card
line_refused s d n e k =
    let f : number_of d ≡ read_number s = ap (λ (b : Answer). b.number) e in
    ap refused_line (k ∙ f) ∙ sym (rw (ne_eqb (read_number s) 0 (λ z. some d (f ∙ z))))

pub line_taken : (s : List ℕ) (c : Card) → answer_of (Ok c) ≡ read_card s → card_line c ≡ line_of s
unfolding line_of read_card
line_taken s c e =
    let f : read_number s ≡ 0 = sym (ap (λ (b : Answer). b.number) e) in
    ap (λ (b : Answer). card_line b.card) e ∙ rw f

-- ---- a line has at most 120 bytes, and a buffer with room for it begins with it

numbers-most : (zs : List ℤ) → length (numbers zs) ≤ 22 * length zs + 1
unfolding numbers
numbers-most [] = omega arith
numbers-most (z ∷ zs) =
    omega (arith, length-append (spaced z) (numbers zs), integer-most z, numbers-most zs)

pub refused-most : (n : ℕ) → length (refused_line n) ≤ 30
unfolding refused_line refused_word
refused-most n = omega (arith, length-append refused_word (numbers (pos n ∷ [])), numbers-most (pos n ∷ []))

pub card-most : (c : Card) → length c.site ≤ 9 → length (card_line c) ≤ line_most
unfolding card_line
card-most c h =
    let zs = pos c.frame ∷ c.epoch ∷ c.position.x ∷ c.position.y ∷ c.position.z ∷ [] in
    omega (arith, length-append c.site (numbers zs), numbers-most zs)

pub line-most : (s : List ℕ) → length (line_of s) ≤ line_most
unfolding line_of decode
line-most s = by (eqb (read_number s) 0)
  where
    by : (b : Bool) → length (cond b (card_line (decode s)) (refused_line (read_number s))) ≤ line_most
    by true = card-most (decode s) (rw (length-take 9 s) (omega arith))
    by false = omega (arith, refused-most (read_number s))

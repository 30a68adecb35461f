-- Lookup: each outcome of the table by itself, and where a found record lies. Assumes nothing.
use mathlib.Core.Path.{◌≡◌, refl, sym, ap, ◌∙◌}
use mathlib.Core.Logic.{◌⊎◌, inl, inr, ⊎_elim}
use mathlib.Core.Bool.{Bool, true, false, ◌&&◌}
use mathlib.Core.List.{List, []}
use Prim.Native.Nat.{ℕ, zero, suc, ◌+◌, ◌-◌, ◌*◌, ◌/◌, ◌%◌, ◌≤◌, ◌<◌}
use native.Mathlib.Omega.{arith}
use borrow.Author.Tests.{ne_eqb, eqb-true, eqb-false, lt-ltb, le-ltb, ltb-true, ltb-false}
use lib.Dec.{eqb, ltb}
use lib.ListN.{length, take, drop, get_or, drop_of_length-le}
use lib.Pointwise.{pointwise}
use Rattle.std.proofs.lemmas.Bool.{cases_eq}
use lib.Seq.{drop-length, take-nil, drop-cons, take-take}
use Rattle.refusal.specs.Refusal.{first}
use Rattle.head.specs.Head.{site_shape}
use Rattle.codec.specs.Codec.{card_length}
use Rattle.std.specs.Prelude.{Ok, Err}
use Rattle.refusal.specs.declared.Refusal.{Refusal}
use Rattle.refusal.specs.Answered.{answered}
use Rattle.refusal.proofs.AnsweredLaws.{some}
use Rattle.catalogue.specs.Lookup.{same_from, has_site, first_from, first_place, find_number, find_place, find_part, found}

-- ---- the pass over the records

pub first-none : (s key : List ℕ) (at n : ℕ) → n ≡ 0 → first_from s key at n ≡ at
unfolding first_from
first-none s key at n e = rw e

pub first-here : (s key : List ℕ) (at n m : ℕ) → n ≡ suc m → has_site s key at ≡ true → first_from s key at n ≡ at
unfolding first_from
first-here s key at n m e h = rw (e, h)

pub first-later : (s key : List ℕ) (at n m : ℕ) → n ≡ suc m → has_site s key at ≡ false
    → first_from s key at n ≡ first_from s key (at + card_length) m
unfolding first_from
first-later s key at n m e h = rw (e, h)

-- the end of the records, or a record that lies among them
first-within : (s key : List ℕ) (at n : ℕ) → (first_from s key at n ≡ at + card_length * n) ⊎ (first_from s key at n + card_length ≤ at + card_length * n)
first-within s key at zero = inl (first-none s key at 0 refl ∙ omega arith)
first-within s key at (suc n) = by (has_site s key at) refl (first-within s key (at + card_length) n)
  where
    by : (b : Bool) → has_site s key at ≡ b → (first_from s key (at + card_length) n ≡ at + card_length + card_length * n) ⊎ (first_from s key (at + card_length) n + card_length ≤ at + card_length + card_length * n)
        → (first_from s key at (suc n) ≡ at + card_length * suc n) ⊎ (first_from s key at (suc n) + card_length ≤ at + card_length * suc n)
    by true h later = let e = first-here s key at (suc n) n refl h in inr (omega arith)
    by false h later =
        let e = first-later s key at (suc n) n refl h in
        ⊎_elim (λ l. inl (omega arith)) (λ l. inr (omega arith)) later

-- ---- the table

number-2 : (s key : List ℕ) → site_shape key ≡ false → find_number s key ≡ 2
unfolding find_number first
number-2 s key h = rw h

number-14 : (s key : List ℕ) → site_shape key ≡ true → (length s % card_length ≡ 0 → ⊥) → find_number s key ≡ 14
unfolding find_number first
number-14 s key h n = rw (h, ne_eqb (length s % card_length) 0 n)

number-15 : (s key : List ℕ) → site_shape key ≡ true → length s % card_length ≡ 0 → length s ≤ first_place s key → find_number s key ≡ 15
unfolding find_number first
number-15 s key h e l = rw (h, e, le-ltb (first_place s key) (length s) l)

number-0 : (s key : List ℕ) → site_shape key ≡ true → length s % card_length ≡ 0 → first_place s key < length s → find_number s key ≡ 0
unfolding find_number first
number-0 s key h e l = rw (h, e, lt-ltb (first_place s key) (length s) l)

-- ---- the two answers together

place_found : (s key : List ℕ) → find_number s key ≡ 0 → find_place s key ≡ first_place s key
unfolding find_place
place_found s key e = rw e

pub place-refused : (s key : List ℕ) → (find_number s key ≡ 0 → ⊥) → find_place s key ≡ length s
unfolding find_place
place-refused s key n = rw (ne_eqb (find_number s key) 0 n)

answer : (s key : List ℕ) (n p : ℕ) → find_number s key ≡ n → find_place s key ≡ p → record { number = n; value = p } ≡ found s key
unfolding found
answer s key n p e f = rw (e, f)

refused : (s key : List ℕ) (n : ℕ) → 0 < n → find_number s key ≡ n → record { number = n; value = length s } ≡ found s key
refused s key n h e = answer s key n (length s) e (place-refused s key (λ z. omega arith))

pub found-2 : (s key : List ℕ) → site_shape key ≡ false → record { number = 2; value = length s } ≡ found s key
found-2 s key h = refused s key 2 (omega arith) (number-2 s key h)

pub found-14 : (s key : List ℕ) → site_shape key ≡ true → (length s % card_length ≡ 0 → ⊥) → record { number = 14; value = length s } ≡ found s key
found-14 s key h n = refused s key 14 (omega arith) (number-14 s key h n)

pub found-15 : (s key : List ℕ) → site_shape key ≡ true → length s % card_length ≡ 0 → length s ≤ first_place s key
    → record { number = 15; value = length s } ≡ found s key
found-15 s key h e l = refused s key 15 (omega arith) (number-15 s key h e l)

pub found-0 : (s key : List ℕ) (at : ℕ) → site_shape key ≡ true → length s % card_length ≡ 0 → first_place s key ≡ at → at < length s
    → record { number = 0; value = at } ≡ found s key
found-0 s key at h e f l =
    let z = number-0 s key h e (omega arith) in
    answer s key 0 at z (place_found s key z ∙ f)

-- what an answer says: refused, and found
pub found-refused : (s key : List ℕ) (e : Refusal) → answered (length s) (Err e) ≡ found s key → (find_number s key ≡ 0 → ⊥) × (find_place s key ≡ length s)
unfolding found
found-refused s key e q = ((λ z. some e (ap (λ x. x.number) q ∙ z)), sym (ap (λ x. x.value) q))

pub found-place : (s key : List ℕ) (p : ℕ) → answered (length s) (Ok p) ≡ found s key → (find_number s key ≡ 0) × (p ≡ find_place s key)
unfolding found
found-place s key p q = (sym (ap (λ x. x.number) q), ap (λ x. x.value) q)

-- ---- a found record

-- 0 is given only where every condition fails
zero-means : (s key : List ℕ) → find_number s key ≡ 0 → (site_shape key ≡ true) × (length s % card_length ≡ 0) × (first_place s key < length s)
zero-means s key z = by (site_shape key) (eqb (length s % card_length) 0) (ltb (first_place s key) (length s)) refl refl refl
  where
    by : (a b c : Bool) → site_shape key ≡ a → eqb (length s % card_length) 0 ≡ b → ltb (first_place s key) (length s) ≡ c
        → (site_shape key ≡ true) × (length s % card_length ≡ 0) × (first_place s key < length s)
    by true true true p q r = (p, eqb-true (length s % card_length) 0 q, ltb-true (first_place s key) (length s) r)
    by false b c p q r = let w = number-2 s key p in absurd (omega arith)
    by true false c p q r = let w = number-14 s key p (eqb-false (length s % card_length) 0 q) in absurd (omega arith)
    by true true false p q r =
        let w = number-15 s key p (eqb-true (length s % card_length) 0 q) (ltb-false (first_place s key) (length s) r) in
        absurd (omega arith)

-- a found record lies within the catalogue
pub place-within : (s key : List ℕ) → find_number s key ≡ 0 → find_place s key + card_length ≤ length s
unfolding first_place
place-within s key z =
    let m = zero-means s key z in
    let f = place_found s key z in
    ⊎_elim (λ l. omega arith) (λ l. omega arith) (first-within s key 0 (length s / card_length))

pub part-found : (s key : List ℕ) → find_number s key ≡ 0 → find_part s key ≡ take card_length (drop (find_place s key) s)
unfolding find_part find_place
part-found s key e = rw e

pub part-refused : (s key : List ℕ) → (find_number s key ≡ 0 → ⊥) → find_part s key ≡ []
unfolding find_part
part-refused s key n = rw (ne_eqb (find_number s key) 0 n)

-- ---- the parts that `find` makes

pub part_of : (s key : List ℕ) (p : ℕ) → find_number s key ≡ 0 → p ≡ find_place s key → take (p + card_length - p) (drop p s) ≡ find_part s key
part_of s key p z e = let k : p + card_length - p ≡ card_length = omega arith in rw (k, e) (sym (part-found s key z))

pub part_none : (s key : List ℕ) (p k : ℕ) → (find_number s key ≡ 0 → ⊥) → p ≡ find_place s key → take k (drop p s) ≡ find_part s key
part_none s key p k n e =
    rw (e, place-refused s key n, drop-length s) (take-nil k ∙ sym (part-refused s key n))

-- ---- a record that begins with the key

alike : (a b : ℕ) → eqb a b ≡ eqb b a
alike a b = elim (cases_eq a b) [
  | inl e ↦ rw e refl
  | inr n ↦ ne_eqb a b n ∙ sym (ne_eqb b a (λ e. n (sym e)))
]

-- from byte i on the key and what follows place `at` are compared as `same_from` compares them
compared : (s key : List ℕ) (at i k : ℕ) → length key ≡ i + k → at + i + k ≤ length s
    → pointwise eqb (drop i key) (take k (drop (at + i) s)) ≡ same_from s key at i k
unfolding same_from
compared s key at i zero l h =
    let e : drop i key ≡ [] = drop_of_length-le key (omega arith) in
    rw e refl
compared s key at i (suc k) l h =
    let p : i < length key = omega arith in
    let q : at + i < length s = omega arith in
    let n : suc (at + i) ≡ at + suc i = omega arith in
    let m : suc i ≡ i + 1 = omega arith in
    rw (drop-cons key i 0 p, drop-cons s (at + i) 0 q, n, alike (get_or key i 0) (get_or s (at + i) 0))
    (ap (λ (b : Bool). eqb (get_or s (at + i) 0) (get_or key i 0) && b) (compared s key at (suc i) k (omega arith) (omega arith) ∙ ap (λ (j : ℕ). same_from s key at j k) m))

-- the record at place `at` begins with a key of nine bytes where it has the key's site
pub begins : (s key r : List ℕ) (at : ℕ) → length key ≡ 9 → at + card_length ≤ length s → r ≡ take card_length (drop at s)
    → pointwise eqb key (take (length key) r) ≡ has_site s key at
unfolding has_site
begins s key r at l h e =
    let t : take 9 (take card_length (drop at s)) ≡ take 9 (drop at s) = take-take 9 card_length (drop at s) (omega arith) in
    let z : at + 0 ≡ at = omega arith in
    rw (e, l, t) (rw z at (compared s key at 0 9 l (omega arith)))

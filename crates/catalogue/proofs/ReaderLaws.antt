-- The reader's steps: the parts of the catalogue read in order, a short last one as 1, then done for ever. Assumes nothing.
use mathlib.Core.Path.{◌≡◌, refl, sym, ap, ap₂, ◌∙◌}
use mathlib.Core.Bool.{Bool, true, false, true≢false}
use mathlib.Core.List.{List, [], ◌∷◌, ◌++◌, map}
use Prim.Native.Nat.{ℕ, zero, suc, ◌+◌, ◌-◌, ◌*◌, ◌≤◌, ◌<◌}
use native.Mathlib.Omega.{arith}
use borrow.Author.Tests.{le-leb, lt-leb, lt-ltb, le-ltb, ltb-true, ltb-false}
use denote.Ref.{Bor}
use lib.Dec.{ltb}
use lib.ListN.{length, take, drop, replicate, length-take, length-drop}
use Rattle.std.specs.Prelude.{Result, Ok, Err, Option, Some, None}
use Rattle.refusal.specs.declared.Refusal.{Refusal}
use Rattle.refusal.proofs.AnsweredLaws.{some, only}
use Rattle.card.specs.declared.Card.{Card}
use Rattle.card.specs.declared.Answer.{Answer}
use Rattle.card.specs.Zero.{zero_card}
use Rattle.codec.specs.Codec.{read_card, card_length}
use Rattle.codec.specs.Parts.{parts_from, part_count, parts}
use Rattle.codec.proofs.AnswerLaws.{read_short}
use Rattle.catalogue.specs.declared.Taken as declared
use Rattle.catalogue.specs.declared.Reader.{Reader}
use Rattle.catalogue.specs.Reader.{Taken, ended, stepped, shown_at, shown, taken_at, Seen, seen, answers, read_seen, done_seen, Reads, told}

-- ---- the three outcomes of a step

pub taken-end : (s : List ℕ) (at : ℕ) → length s ≤ at → taken_at s at ≡ ended at
unfolding taken_at
taken-end s at h = rw (le-leb (length s) at h)

pub taken-short : (s : List ℕ) (at : ℕ) → at < length s → length s - at < card_length
    → taken_at s at ≡ stepped (record { number = 1; card = zero_card }) (length s)
unfolding taken_at
taken-short s at h k = rw (lt-leb (length s) at h, lt-ltb (length s - at) card_length k)

pub taken-whole : (s : List ℕ) (at : ℕ) → at < length s → card_length ≤ length s - at
    → taken_at s at ≡ stepped (read_card (take card_length (drop at s))) (at + card_length)
unfolding taken_at
taken-whole s at h k = rw (lt-leb (length s) at h, le-ltb (length s - at) card_length k)

-- the place that an answered step leaves
pub next-place : (t : declared.Taken) → t.next ≡ (shown t).next
unfolding ended stepped
next-place t = at t.found t.next
  where
    at : (f : Result (Option Card) Refusal) (n : ℕ) → n ≡ (shown_at f n).next
    at (Ok (Some c)) n = refl
    at (Ok None) n = refl
    at (Err e) n = refl

-- two answered steps that are told alike are the same
pub taken-same : (t u : declared.Taken) → shown t ≡ shown u → t ≡ u
unfolding ended stepped
taken-same t u h = λ i. record { found = found t.found u.found h' i; next = place i }
  where
    place : t.next ≡ u.next
    place = next-place t ∙ ap (λ (x : Taken). x.next) h ∙ sym (next-place u)

    h' : shown_at t.found t.next ≡ shown_at u.found u.next
    h' = h

    found : (f g : Result (Option Card) Refusal) → shown_at f t.next ≡ shown_at g u.next → f ≡ g
    found (Ok (Some a)) (Ok (Some b)) k = ap (λ (c : Card). Ok (Some c)) (ap (λ (x : Taken). x.card) k)
    found (Ok (Some a)) (Ok None) k = absurd (true≢false (sym (ap (λ (x : Taken). x.done) k)))
    found (Ok (Some a)) (Err e) k = absurd (some e (sym (ap (λ (x : Taken). x.number) k)))
    found (Ok None) (Ok (Some b)) k = absurd (true≢false (ap (λ (x : Taken). x.done) k))
    found (Ok None) (Ok None) k = refl
    found (Ok None) (Err e) k = absurd (true≢false (ap (λ (x : Taken). x.done) k))
    found (Err d) (Ok (Some b)) k = absurd (some d (ap (λ (x : Taken). x.number) k))
    found (Err d) (Ok None) k = absurd (true≢false (sym (ap (λ (x : Taken). x.done) k)))
    found (Err d) (Err e) k = ap Err (only d e (ap (λ (x : Taken). x.number) k))

-- ---- the same as a caller sees them

step-one : (s : List ℕ) (at n : ℕ) (t : Taken) → taken_at s at ≡ t → answers s at (suc n) ≡ seen t ∷ answers s t.next n
unfolding answers
step-one s at n t e = rw e

at-end : (s : List ℕ) (at n : ℕ) → length s ≤ at → answers s at (suc n) ≡ done_seen ∷ answers s at n
unfolding ended seen done_seen
at-end s at n h = step-one s at n (ended at) (taken-end s at h)

at-short : (s : List ℕ) (at n : ℕ) → at < length s → length s - at < card_length
    → answers s at (suc n) ≡ read_seen (take card_length (drop at s)) ∷ answers s (length s) n
unfolding stepped seen read_seen
at-short s at n h k =
    let e : length (take card_length (drop at s)) ≡ card_length → ⊥ = simp (length-take, length-drop) (omega arith) in
    step-one s at n (stepped (record { number = 1; card = zero_card }) (length s)) (taken-short s at h k)
    ∙ ap (λ (a : Answer). (false, a) ∷ answers s (length s) n) (read_short (take card_length (drop at s)) e)

at-whole : (s : List ℕ) (at n : ℕ) → at < length s → card_length ≤ length s - at
    → answers s at (suc n) ≡ read_seen (take card_length (drop at s)) ∷ answers s (at + card_length) n
unfolding stepped seen read_seen
at-whole s at n h k = step-one s at n (stepped (read_card (take card_length (drop at s))) (at + card_length)) (taken-whole s at h k)

-- ---- all steps

done-after : (s : List ℕ) (at k : ℕ) → length s ≤ at → answers s at k ≡ replicate k done_seen
unfolding answers
done-after s at zero h = refl
done-after s at (suc k) h = at-end s at k h ∙ ap (λ (l : List Seen). done_seen ∷ l) (done-after s at k h)

-- the last part, short or whole
from_last : (s : List ℕ) (at k : ℕ) → at < length s → length s ≤ at + card_length
    → answers s at (suc k) ≡ read_seen (take card_length (drop at s)) ∷ replicate k done_seen
from_last s at k h l = by (ltb (length s - at) card_length) refl
  where
    by : (b : Bool) → ltb (length s - at) card_length ≡ b → answers s at (suc k) ≡ read_seen (take card_length (drop at s)) ∷ replicate k done_seen
    by true e = at-short s at k h (ltb-true (length s - at) card_length e) ∙ ap (λ (r : List Seen). read_seen (take card_length (drop at s)) ∷ r) (done-after s (length s) k (omega arith))
    by false e =
        let w = ltb-false (length s - at) card_length e in
        at-whole s at k h w ∙ ap (λ (r : List Seen). read_seen (take card_length (drop at s)) ∷ r) (done-after s (at + card_length) k l)

-- n + 1 parts are left: a record in each but the last
from_place : (s : List ℕ) (at n k : ℕ) → at + card_length * n < length s → length s ≤ at + card_length * n + card_length
    → answers s at (suc n + k) ≡ map read_seen (parts_from s at (suc n)) ++ replicate k done_seen
unfolding parts_from
from_place s at zero k h l =
    let e : 1 + k ≡ suc k = omega arith in
    rw e (from_last s at k (omega arith) (omega arith))
from_place s at (suc n) k h l =
    let e : suc (suc n) + k ≡ suc (suc n + k) = omega arith in
    rw e
    (at-whole s at (suc n + k) (omega arith) (omega arith)
    ∙ ap (λ (r : List Seen). read_seen (take card_length (drop at s)) ∷ r) (from_place s (at + card_length) n k (omega arith) (omega arith)))

-- the answers of a catalogue's steps from its start: its parts read in order, then done for ever
pub all-answers : (s : List ℕ) (k : ℕ) → answers s 0 (part_count s + k) ≡ map read_seen (parts s) ++ replicate k done_seen
unfolding parts part_count parts_from
all-answers s k = by (part_count s) refl
  where
    by : (n : ℕ) → part_count s ≡ n → answers s 0 (n + k) ≡ map read_seen (parts_from s 0 n) ++ replicate k done_seen
    by zero e = let z : 0 + k ≡ k = omega arith in rw z (done-after s 0 k (omega arith))
    by (suc n) e = from_place s 0 n k (omega arith) (omega arith)

-- fewer steps give the first of them
answers-first : (s : List ℕ) (at n m : ℕ) → answers s at n ≡ take n (answers s at (n + m))
unfolding answers
answers-first s at zero m = refl
answers-first s at (suc n) m =
    let e : suc n + m ≡ suc (n + m) = omega arith in
    rw e (ap (λ (l : List Seen). seen (taken_at s at) ∷ l) (answers-first s (taken_at s at).next n m))

-- any number of steps from a catalogue's start: the first n of its parts read in order, then done for ever
pub any-answers : (s : List ℕ) (n : ℕ) → answers s 0 n ≡ take n (map read_seen (parts s) ++ replicate n done_seen)
any-answers s n =
    let e : n + part_count s ≡ part_count s + n = omega arith in
    answers-first s 0 n (part_count s) ∙ ap (λ (k : ℕ). take n (answers s 0 k)) e ∙ ap (take n) (all-answers s n)

-- ---- a reader

reads-answers : (r : Reader) (calls : List (declared.Taken × Reader)) → Reads r calls → told calls ≡ answers r.src.now r.at (length calls)
unfolding Reads told answers
reads-answers r [] h = refl
reads-answers r (call ∷ calls) h =
    ap (λ (t : Taken). seen t ∷ told calls) h.0
    ∙ ap (λ (l : List Seen). seen (taken_at r.src.now r.at) ∷ l)
    (reads-answers call.1 calls h.1.1.1
    ∙ ap₂ (λ (b : List ℕ) (k : ℕ). answers b k (length calls)) (ap (λ (x : Bor (List ℕ)). x.now) h.1.0) h.1.1.0)

-- what a reader over the lent bytes s answers to any run of calls from its start: the first of the parts read in order, then done for ever
pub reader-answers :
    (s : Bor (List ℕ)) (r : Reader) (calls : List (declared.Taken × Reader)) → r.src ≡ s → r.at ≡ 0 → Reads r calls
    → told calls ≡ take (length calls) (map read_seen (parts s.now) ++ replicate (length calls) done_seen)
reader-answers s r calls e a h =
    reads-answers r calls h
    ∙ ap₂ (λ (b : List ℕ) (i : ℕ). answers b i (length calls)) (ap (λ (x : Bor (List ℕ)). x.now) e) a
    ∙ any-answers s.now (length calls)

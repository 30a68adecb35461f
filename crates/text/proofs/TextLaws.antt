-- Text: how many digits a number has, how long a text is, and texts put one after another. Assumes nothing.
use mathlib.Core.Path.{◌≡◌, refl, sym, ap, ◌∙◌}
use mathlib.Core.Bool.{Bool, true, false, cond}
use mathlib.Core.List.{List, [], ◌∷◌, ◌++◌}
use Prim.Native.Nat.{ℕ, zero, suc, ◌+◌, ◌*◌, ◌/◌, ◌%◌, ◌^◌, ◌≤◌, ◌<◌, max}
use native.Mathlib.Nat.{pow-suc, one-le-pow}
use native.Mathlib.Omega.{arith}
use borrow.Author.Tests.{lt-ltb, le-ltb, ltb-true, ltb-false}
use lib.Dec.{ltb, lit<}
use lib.ListN.{length, length-append}
use lib.Seq.{set_out}
use lib.IntN.{ℤ, pos, negsuc}
use Rattle.octets.specs.Octets.{splice}
use Rattle.octets.proofs.OctetLaws.{length-splice, splice-append}
use Rattle.text.specs.Text.{last_place, after, digits, places_in, places, natural, integer, hex_of}

pub length_digits : (k n : ℕ) → length (digits k n) ≡ k
unfolding digits
length_digits zero n = refl
length_digits (suc k) n =
    length-append (digits k (n / 10)) ((48 + n % 10) ∷ [])
    ∙ let e = length_digits k (n / 10) in omega arith

-- ---- how many digits

pub places-last : (k n : ℕ) → n < 10 → places_in k n ≡ 1
unfolding places_in
places-last zero n h = refl
places-last (suc k) n h = rw (lt-ltb n 10 h)

places-step : (k n : ℕ) → 10 ≤ n → places_in (suc k) n ≡ suc (places_in k (n / 10))
unfolding places_in
places-step k n h = rw (le-ltb n 10 h)

places-in : (k n : ℕ) → places_in k n ≤ k + 1
unfolding places_in
places-in zero n = omega arith
places-in (suc k) n = by (ltb n 10) (places-in k (n / 10))
  where
    by : (b : Bool) → places_in k (n / 10) ≤ k + 1 → cond b 1 (suc (places_in k (n / 10))) ≤ suc k + 1
    by true h = omega arith
    by false h = omega arith

pub places-most : (n : ℕ) → places n ≤ 20
unfolding places
places-most n = places-in 19 n

-- n lies between two powers of ten; 0 has the one place that 1 has
places-between : (k j n : ℕ) → k ≤ j → 10 ^ k ≤ max n 1 → max n 1 < 10 * 10 ^ k → places_in j n ≡ suc k
places-between zero j n l h g = places-last j n (omega arith)
places-between (suc k) zero n l h g = absurd (omega arith)
places-between (suc k) (suc j) n l h g =
    let p = pow-suc 10 k in
    let o = one-le-pow k 10 (lit< tt) in
    places-step j n (omega arith) ∙ ap suc (places-between k j (n / 10) (omega arith) (omega arith) (omega arith))

pub places_log : (n m k : ℕ) → m ≡ max n 1 → 10 ^ k ≤ m → m < 10 * 10 ^ k → k < 20 → k + 1 ≡ places n
unfolding places
places_log n m k e h g l = omega (arith, places-between k 19 n (omega arith) (omega arith) (omega arith))

-- ---- the length of a text

pub length-natural : (n : ℕ) → length (natural n) ≡ places n
unfolding natural
length-natural n = length_digits (places n) n

pub integer-most : (z : ℤ) → length (integer z) ≤ 21
unfolding integer
integer-most (pos m) = omega (arith, length-natural m, places-most m)
integer-most (negsuc m) = omega (arith, length-natural (suc m), places-most (suc m))

pub length-hex : (s : List ℕ) → length (hex_of s) ≡ 2 * length s
unfolding hex_of
length-hex [] = refl
length-hex (b ∷ s) = omega (arith, length-hex s)

-- ---- the place after a text

pub after_small : (at n : ℕ) → at + n ≤ last_place → after at n ≡ at + n
after_small at n h = omega arith

-- past the end nothing is written
pub splice-out : (s : List ℕ) (at : ℕ) (bs : List ℕ) → length s ≤ at → splice s at bs ≡ s
unfolding splice
splice-out s at [] h = refl
splice-out s at (b ∷ bs) h = ap (λ (t : List ℕ). splice t (suc at) bs) (set_out s at b h) ∙ splice-out s (suc at) bs (omega arith)

-- so a place that stopped is as good as the one that is meant
splice-after : (s : List ℕ) (at n : ℕ) (bs : List ℕ) → length s ≤ last_place → splice s (after at n) bs ≡ splice s (at + n) bs
splice-after s at n bs h = by (ltb last_place (at + n)) refl
  where
    by : (b : Bool) → ltb last_place (at + n) ≡ b → splice s (after at n) bs ≡ splice s (at + n) bs
    by true e =
        let l = ltb-true last_place (at + n) e in
        splice-out s (after at n) bs (omega arith) ∙ sym (splice-out s (at + n) bs (omega arith))
    by false e =
        let l = ltb-false last_place (at + n) e in
        ap (λ (k : ℕ). splice s k bs) (after_small at n (omega arith))

-- ---- a text put piece by piece from `start` on

-- `out` is the first buffer with this text, and `at` is the place after it
pub record Put (first : List ℕ) (start : ℕ) (text out : List ℕ) (at : ℕ) : Type 0 where
  pub reach : length first ≤ last_place
  pub holds : out ≡ splice first start text
  pub place : at ≡ after start (length text)

pub put-none : (first : List ℕ) (start : ℕ) → length first ≤ last_place → start ≤ last_place → Put first start [] first start
unfolding splice
put-none first start h l = record { reach = h; holds = refl; place = omega arith }

pub put-more : {first out out' text : List ℕ} {start at at' : ℕ} (bs : List ℕ) → Put first start text out at → at' ≡ after at (length bs) → out' ≡ splice out at bs
    → Put first start (text ++ bs) out' at'
put-more {first} {out} {out'} {text} {start} {at} {at'} bs p l e =
    let n = length text in
    let h : length (splice first start text) ≤ last_place = rw (length-splice first start text) p.reach in
    record {
      reach = p.reach;
      holds =
          e ∙ ap (λ (o : List ℕ). splice o at bs) p.holds ∙ ap (λ (k : ℕ). splice (splice first start text) k bs) p.place
          ∙ splice-after (splice first start text) start n bs h
          ∙ sym (splice-append first start text bs);
      place = omega (arith, p.place, length-append text bs);
    }

-- an integer that the machine holds in another form
pub put_same : {first out out' text : List ℕ} {start at at' : ℕ} {y z : ℤ} (f : ℤ → List ℕ) → y ≡ z → Put first start text out at → at' ≡ after at (length (f y))
    → out' ≡ splice out at (f y) → Put first start (text ++ f z) out' at'
put_same {out = out} {at = at} {z = z} f h p l e =
    put-more (f z) p (l ∙ ap (λ (x : ℤ). after at (length (f x))) h) (e ∙ ap (λ (x : ℤ). splice out at (f x)) h)

pub put_as : {first out text text' : List ℕ} {start at : ℕ} → text ≡ text' → Put first start text out at → Put first start text' out at
put_as {first} {out} {text} {text'} {start} {at} e p =
    record { reach = p.reach; holds = p.holds ∙ ap (splice first start) e; place = p.place ∙ ap (λ (t : List ℕ). after start (length t)) e }

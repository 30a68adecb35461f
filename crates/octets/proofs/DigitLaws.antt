-- Digits to base 256: how many, how large, what they are worth, and the digits of a reading.
use mathlib.Core.Path.{◌≡◌, refl, sym, ap, ap₂, ◌∙◌}
use mathlib.Core.List.{List, [], ◌∷◌, ◌++◌}
use Prim.Native.Nat.{ℕ, zero, suc, ◌+◌, ◌-◌, ◌*◌, ◌/◌, ◌%◌, ◌^◌, ◌≤◌, ◌<◌}
use native.Mathlib.Nat.{pow-succ', zero-add, mul_comm, mod-lt, one-le-pow}
use native.Mathlib.Numerals.{add-one}
use native.Mathlib.Omega.{arith}
use lib.Arith.{mod-mul}
use lib.Dec.{lit<}
use lib.IntN.{ℤ, pos, negsuc}
use lib.ListN.{length, get_or, take, drop, length-append, length-drop, get_or-append}
use lib.Pow.{pow-add}
use lib.Seq.{get_or_at, get_or-drop, take-suc}
use Rattle.octets.specs.Octets.{unsigned_at, digits_of, residue, bytes_of}
use Rattle.octets.proofs.ReadLaws.{Bytes, unsigned-same}

-- 256^n is 2^(8 n)
pub eights : (n : ℕ) → 2 ^ (8 * n) ≡ 256 ^ n
eights zero = refl
eights (suc n) =
    let e : 8 * suc n ≡ 8 + 8 * n = omega arith in
    ap (λ (k : ℕ). 2 ^ k) e ∙ pow-add 2 8 (8 * n) ∙ ap (λ (k : ℕ). 256 * k) (eights n) ∙ sym (pow-succ' 256 n)

pub length_digits : (n u : ℕ) → length (digits_of n u) ≡ n
unfolding digits_of
length_digits zero u = refl
length_digits (suc n) u =
    length-append (digits_of n (u / 256)) (u % 256 ∷ []) ∙ ap (λ (k : ℕ). k + 1) (length_digits n (u / 256)) ∙ add-one n

bytes-append : (s t : List ℕ) → Bytes s → Bytes t → Bytes (s ++ t)
bytes-append [] t p q i = q i
bytes-append (x ∷ s) t p q zero = p zero
bytes-append (x ∷ s) t p q (suc i) = bytes-append s t (λ i. p (suc i)) q i

bytes_one : (b : ℕ) → b < 256 → Bytes (b ∷ [])
bytes_one b h zero = h
bytes_one b h (suc i) = lit< tt

pub digits-bytes : (n u : ℕ) → Bytes (digits_of n u)
unfolding digits_of
digits-bytes zero u = λ i. lit< tt
digits-bytes (suc n) u =
    bytes-append (digits_of n (u / 256)) (u % 256 ∷ []) (digits-bytes n (u / 256)) (bytes_one (u % 256) (mod-lt u (lit< tt)))

positive : (n : ℕ) → 0 < 256 ^ n
positive n = one-le-pow n 256 (lit< tt)

-- the digits are worth what they are the digits of
pub digits_value : (n u : ℕ) → unsigned_at (digits_of n u) 0 n ≡ u % 256 ^ n
unfolding unsigned_at digits_of
digits_value zero u = omega arith
digits_value (suc n) u =
    ap₂ (λ (a b : ℕ). 256 * a + b)
    (unsigned-same (d ++ (u % 256 ∷ [])) d 0 0 n (λ i l. get_or-append d (u % 256 ∷ []) 0 (0 + i) (omega (arith, length_digits n (u / 256))))
    ∙ digits_value n (u / 256))
    (get_or_at d (u % 256) [] 0 (0 + n) (length_digits n (u / 256) ∙ sym (zero-add n)))
    ∙ worth
  where
    d : List ℕ
    d = digits_of n (u / 256)

    worth : 256 * (u / 256 % 256 ^ n) + u % 256 ≡ u % 256 ^ suc n
    worth =
        omega (
          arith,
          ap (λ (p : ℕ). u % p) (pow-succ' 256 n ∙ mul_comm 256 (256 ^ n)) ∙ mod-mul u {m = 256 ^ n} {c = 256} (positive n) (lit< tt),
        )

-- the digits of a reading are the bytes that were read
pub digits-unsigned : (s : List ℕ) (at n : ℕ) → Bytes s → at + n ≤ length s → digits_of n (unsigned_at s at n) ≡ take n (drop at s)
unfolding unsigned_at digits_of
digits-unsigned s at zero b h = refl
digits-unsigned s at (suc n) b h =
    ap₂ (λ (d : List ℕ) (x : ℕ). d ++ (x ∷ []))
    (ap (digits_of n) quotient ∙ digits-unsigned s at n b (omega arith))
    (remainder ∙ sym (get_or-drop at s n 0))
    ∙ sym (take-suc (drop at s) n 0 (simp length-drop (omega arith)))
  where
    quotient : (256 * unsigned_at s at n + get_or s (at + n) 0) / 256 ≡ unsigned_at s at n
    quotient = omega (arith, b (at + n))

    remainder : (256 * unsigned_at s at n + get_or s (at + n) 0) % 256 ≡ get_or s (at + n) 0
    remainder = omega (arith, b (at + n))

-- ---- only the last n digits count

digits_more : (n u k : ℕ) → digits_of n (k * 256 ^ n + u) ≡ digits_of n u
unfolding digits_of
digits_more zero u k = refl
digits_more (suc n) u k =
    ap₂ (λ (d : List ℕ) (x : ℕ). d ++ (x ∷ []))
    (ap (digits_of n) quotient ∙ digits_more n (u / 256) k)
    remainder
  where
    quotient : (k * 256 ^ suc n + u) / 256 ≡ k * 256 ^ n + u / 256
    quotient = rw (pow-succ' 256 n) (omega arith)

    remainder : (k * 256 ^ suc n + u) % 256 ≡ u % 256
    remainder = rw (pow-succ' 256 n) (omega arith)

-- q * p + r from k * p, with borrow
below : (p q k r : ℕ) → q < k → r < p → k * p - suc (q * p + r) ≡ (k - suc q) * p + (p - suc r)
below p q k r l h = go (k - suc q) (omega arith)
  where
    go : (d : ℕ) → k ≡ suc q + d → k * p - suc (q * p + r) ≡ d * p + (p - suc r)
    go d e = rw e (omega arith)

module _ (n k a : ℕ) (h : 0 < k) where
  kept-pos : digits_of n (a % (k * 256 ^ n)) ≡ digits_of n (a % 256 ^ n)
  kept-pos = ap (digits_of n) (mod-mul a h (positive n)) ∙ digits_more n (a % 256 ^ n) (a / 256 ^ n % k)

  kept-neg : digits_of n (k * 256 ^ n - suc (a % (k * 256 ^ n))) ≡ digits_of n (256 ^ n - suc (a % 256 ^ n))
  kept-neg =
      ap (λ (x : ℕ). digits_of n (k * 256 ^ n - suc x)) (mod-mul a h (positive n))
      ∙ ap (digits_of n) (below (256 ^ n) (a / 256 ^ n % k) k (a % 256 ^ n) (mod-lt (a / 256 ^ n) h) (mod-lt a (positive n)))
      ∙ digits_more n (256 ^ n - suc (a % 256 ^ n)) (k - suc (a / 256 ^ n % k))

-- of a number mod 256^m the last n digits are those of the number mod 256^n
pub digits-residue : (n m : ℕ) (z : ℤ) → n ≤ m → digits_of n (residue m z) ≡ bytes_of n z
unfolding residue bytes_of
digits-residue n m z h = go z
  where
    power : 256 ^ m ≡ 256 ^ (m - n) * 256 ^ n
    power = let e : m ≡ m - n + n = omega arith in ap (λ (x : ℕ). 256 ^ x) e ∙ pow-add 256 (m - n) n

    go : (z : ℤ) → digits_of n (residue m z) ≡ bytes_of n z
    go (pos a) = rw power (kept-pos n (256 ^ (m - n)) a (positive (m - n)))
    go (negsuc a) = rw power (kept-neg n (256 ^ (m - n)) a (positive (m - n)))

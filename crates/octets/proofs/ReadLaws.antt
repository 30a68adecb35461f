-- What a reading depends on, and how large it is.
use mathlib.Core.Path.{◌≡◌, refl, ap, ap₂, ◌∙◌}
use mathlib.Core.List.{List}
use Prim.Native.Nat.{ℕ, zero, suc, ◌+◌, ◌-◌, ◌*◌, ◌^◌, ◌≤◌, ◌<◌}
use native.Mathlib.Nat.{add-zero, pow-succ', lt-suc_self, one-le-pow, mod-eq_of_lt, mod-lt}
use native.Mathlib.Decide.{dec_lt}
use native.Mathlib.Omega.{arith}
use borrow.Author.Tests.{lt-ltb, le-ltb}
use lib.Dec.{lit<}
use lib.IntN.{ℤ, pos, negsuc, ◌-ℤ◌}
use lib.Signed.{mag}
use lib.ListN.{get_or}
use Rattle.algebra.proofs.Difference.{ℤ⊖}
use Rattle.octets.specs.Octets.{unsigned_at, signed_of, residue}

-- every byte is below 256; past the end it reads as 0
abbrev pub Bytes : List ℕ → Type 0
Bytes s = (i : ℕ) → get_or s i 0 < 256

-- z is a signed number of n bytes, for n from 1: -(256^n)/2 ≤ z < (256^n)/2, since `mag z` is m both for m and for -(m + 1)
abbrev pub Signed : ℕ → ℤ → Type 0
Signed n z = 2 * mag z < 256 ^ n

-- ---- unsigned

pub unsigned-lt : (s : List ℕ) (at n : ℕ) → Bytes s → unsigned_at s at n < 256 ^ n
unfolding unsigned_at
unsigned-lt s at zero b = lit< tt
unsigned-lt s at (suc n) b = rw (pow-succ' 256 n) (omega (arith, unsigned-lt s at n b, b (at + n)))

-- a run in two parts
pub unsigned-parts : (s : List ℕ) (at m k : ℕ) → unsigned_at s at (m + k) ≡ unsigned_at s at m * 256 ^ k + unsigned_at s (at + m) k
unfolding unsigned_at
unsigned-parts s at m zero = ap (unsigned_at s at) (add-zero m) ∙ omega arith
unsigned-parts s at m (suc k) =
    let e : m + suc k ≡ suc (m + k) = omega arith in
    let p : at + (m + k) ≡ at + m + k = omega arith in
    ap (unsigned_at s at) e ∙ rw (pow-succ' 256 k, p) (omega (arith, unsigned-parts s at m k))

-- two runs that agree byte by byte read the same
pub unsigned-same : (s t : List ℕ) (at place n : ℕ) → ((i : ℕ) → i < n → get_or s (at + i) 0 ≡ get_or t (place + i) 0)
    → unsigned_at s at n ≡ unsigned_at t place n
unfolding unsigned_at
unsigned-same s t at place zero h = refl
unsigned-same s t at place (suc n) h =
    ap₂ (λ (a b : ℕ). 256 * a + b)
    (unsigned-same s t at place n (λ i l. h i (omega arith)))
    (h n (lt-suc_self n))

pub unsigned-one : (s : List ℕ) (at : ℕ) → unsigned_at s at 1 ≡ get_or s at 0
unfolding unsigned_at
unsigned-one s at = omega (arith, ap (λ (k : ℕ). get_or s k 0) (add-zero at))

-- ---- signed: u is z mod 256^n, and back

pub signed_low : (n u : ℕ) → 2 * u < 256 ^ n → signed_of n u ≡ pos u
unfolding signed_of
signed_low n u h = rw (lt-ltb (2 * u) (256 ^ n) h)

pub signed_high : (n u : ℕ) → 256 ^ n ≤ 2 * u → u < 256 ^ n → signed_of n u ≡ negsuc (256 ^ n - suc u)
unfolding signed_of
signed_high n u h l = rw (le-ltb (2 * u) (256 ^ n) h) (down u (256 ^ n) l)
  where
    down : (u p : ℕ) → u < p → pos u -ℤ pos p ≡ negsuc (p - suc u)
    down u p l = simp ℤ⊖ (omega arith)

pub signed-in : (n u : ℕ) → u < 256 ^ n → Signed n (signed_of n u)
signed-in n u l = go (dec_lt (2 * u) (256 ^ n))
  where
    go : Dec (2 * u < 256 ^ n) → Signed n (signed_of n u)
    go (yes h) = rw (signed_low n u h) h
    go (no h) = rw (signed_high n u (omega arith) l) (omega arith)

pub residue-lt : (n : ℕ) (z : ℤ) → residue n z < 256 ^ n
unfolding residue
residue-lt n (pos m) = mod-lt m (one-le-pow n 256 (lit< tt))
residue-lt n (negsuc m) = omega (arith, one-le-pow n 256 (lit< tt))

pub residue-signed : (n u : ℕ) → u < 256 ^ n → residue n (signed_of n u) ≡ u
unfolding residue
residue-signed n u l = go (dec_lt (2 * u) (256 ^ n))
  where
    go : Dec (2 * u < 256 ^ n) → residue n (signed_of n u) ≡ u
    go (yes h) = rw (signed_low n u h) (mod-eq_of_lt l)
    go (no h) =
        let k : 256 ^ n - suc u < 256 ^ n = omega arith in
        rw (signed_high n u (omega arith) l) (rw (mod-eq_of_lt k) (omega arith))

pub signed-residue : (n : ℕ) (z : ℤ) → 1 ≤ n → Signed n z → signed_of n (residue n z) ≡ z
unfolding residue
signed-residue zero z k h = absurd (omega arith)
signed-residue (suc n) (pos m) k h =
    rw (mod-eq_of_lt {n = m} {m = 256 ^ suc n} (omega arith)) (signed_low (suc n) m h)
signed-residue (suc n) (negsuc m) k h =
    let p : 256 ^ suc n ≡ 256 * 256 ^ n = pow-succ' 256 n in
    rw (mod-eq_of_lt {n = m} {m = 256 ^ suc n} (omega arith))
    (signed_high (suc n) (256 ^ suc n - suc m) (omega arith) (omega arith) ∙ ap negsuc (omega arith))

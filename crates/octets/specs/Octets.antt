-- Numbers in bytes, big-endian, signed ones in two's complement. A byte is a number below 256; a list of bytes is read and
-- written at a place `at`, in a width of n bytes. What lies past the end reads as 0, and is not written.
use Rattle.std.specs.Prelude.{ℕ, zero, suc, ◌+◌, ◌-◌, ◌*◌, ◌/◌, ◌%◌, ◌^◌, cond, List, [], ◌∷◌, ◌++◌, get_or, set, ltb, ℤ, pos, negsuc, ◌-ℤ◌, Float}
use Rattle.std.specs.Float.Ieee.{of_bits}
use Rattle.std.specs.Float.{binary64}

-- ---- reading

-- the n bytes from place `at` as one number, the first the most significant
unfoldable pub unsigned_at : List ℕ → ℕ → ℕ → ℕ
unsigned_at s at zero = 0
unsigned_at s at (suc n) = 256 * unsigned_at s at n + get_or s (at + n) 0

-- two's complement over n bytes: u below half of 256^n is u itself, and from there on it is u - 256^n
unfoldable pub signed_of : ℕ → ℕ → ℤ
signed_of n u = cond (ltb (2 * u) (256 ^ n)) (pos u) (pos u -ℤ pos (256 ^ n))

unfoldable pub signed_at : List ℕ → ℕ → ℕ → ℤ
signed_at s at n = signed_of n (unsigned_at s at n)

-- the double with the 64 bits that stand at `at`. Every NaN pattern is the one `nan`
unfoldable pub double_at : List ℕ → ℕ → Float
double_at s at = of_bits binary64 (unsigned_at s at 8)

-- ---- writing

-- the last n digits of u to base 256, the most significant first
unfoldable pub digits_of : ℕ → ℕ → List ℕ
digits_of zero u = []
digits_of (suc n) u = digits_of n (u / 256) ++ (u % 256 ∷ [])

-- z mod 256^n. `negsuc m` is -(m + 1)
unfoldable pub residue : ℕ → ℤ → ℕ
residue n (pos m) = m % 256 ^ n
residue n (negsuc m) = 256 ^ n - suc (m % 256 ^ n)

-- the n bytes of z, the most significant first
unfoldable pub bytes_of : ℕ → ℤ → List ℕ
bytes_of n z = digits_of n (residue n z)

-- s with these bytes from place `at` on. A `set` past the end changes nothing
unfoldable pub splice : List ℕ → ℕ → List ℕ → List ℕ
splice s at [] = s
splice s at (b ∷ bs) = splice (set s at b) (suc at) bs

-- Numbers and bytes as text, in ASCII, and the place after a text.
use Rattle.std.specs.Prelude.{cond, List, [], ◌∷◌, ◌++◌, ℕ, zero, suc, ◌+◌, ◌/◌, ◌%◌, min, ltb, ℤ, pos, negsuc}

-- the greatest place that 64 bits can name. No buffer reaches it
abbrev pub last_place : ℕ
last_place = 18446744073709551615

-- n places after `at`; it stops at the greatest
abbrev pub after : ℕ → ℕ → ℕ
after at n = min (at + n) last_place

-- ---- decimal

-- the last k decimal digits of n, the most significant first; 48 is `0`
unfoldable pub digits : ℕ → ℕ → List ℕ
digits zero n = []
digits (suc k) n = digits k (n / 10) ++ ((48 + n % 10) ∷ [])

-- how many decimal digits n has: at most k + 1 are looked for
unfoldable pub places_in : ℕ → ℕ → ℕ
places_in zero n = 1
places_in (suc k) n = cond (ltb n 10) 1 (suc (places_in k (n / 10)))

-- a number of 64 bits has at most 20
unfoldable pub places : ℕ → ℕ
places n = places_in 19 n

unfoldable pub natural : ℕ → List ℕ
natural n = digits (places n) n

-- `-` before what is below zero. `negsuc m` is -(m + 1)
unfoldable pub integer : ℤ → List ℕ
integer (pos m) = natural m
integer (negsuc m) = 45 ∷ natural (suc m)

-- a space before an integer
abbrev pub spaced : ℤ → List ℕ
spaced z = 32 ∷ integer z

-- ---- hexadecimal

-- the last hex digit of d; 48 is `0`, and 97, which is 87 + 10, is `a`
unfoldable pub hex_digit : ℕ → ℕ
hex_digit d = cond (ltb (d % 16) 10) (48 + d % 16) (87 + d % 16)

-- two hex digits a byte
unfoldable pub hex_of : List ℕ → List ℕ
hex_of [] = []
hex_of (b ∷ s) = hex_digit (b / 16) ∷ hex_digit b ∷ hex_of s

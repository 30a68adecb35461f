-- A double as a whole number, from its bits: the sign, the exponent's field x and the digits t. Where x is not 0 the number is
-- (2^52 + t) * 2^(x - 1) over 2^1074.
use mathlib.Core.Path.{◌≡◌, refl, sym, ap, ◌∙◌}
use mathlib.Core.Bool.{Bool, true, false, cond}
use Prim.Native.Nat.{ℕ, zero, suc, ◌+◌, ◌-◌, ◌*◌, ◌^◌, ◌≤◌, ◌<◌}
use native.Mathlib.Nat.{le_of_suc-le-suc, lt_of_lt_of_le, mul-le-mul, mul-lt-mul_of_pos_left, mul_assoc, add_comm, le-add_right, ne_of_lt}
use native.Mathlib.Omega.{arith}
use borrow.Author.Tests.{leb-true, leb-false}
use lib.Dec.{leb, eqb, le→leb, lit<, lit≤}
use lib.IntN.{ℤ, pos, nat_abs}
use lib.Ieee.{Float, nan, inf, fin, up, down, odd, of_fields, binary64}
use lib.Ieee.Bits.{is_true, is_false}
use lib.Ieee.Fits.{down_pos}
use lib.Ieee.Exact.{HasValue, odd_sign}
use lib.Arith.{lt→nleb}
use lib.Pow.{pow-add, pow_pos, pow_mono, shl_lt}
use mir.Facts.{no_eqb}
use Rattle.numbers.specs.declared.Rounded.{Rounded}
use Rattle.numbers.specs.declared.Rounded.TheVariants.{NotFinite, Far, Number}
use Rattle.numbers.specs.Near.{nearest, near}
use Rattle.numbers.specs.Whole.{Nearest, signed, none, some, whole_of, Means, shown}
use Rattle.numbers.proofs.NearRule.{nearest-below-half}
use Rattle.numbers.proofs.NearLaws.{near-odd, nearest-same, nearest-least}

-- ---- the case that means a whole number, and that no other does

pub shown-means : (n : Nearest) → Means (shown n) n
unfolding Means shown
shown-means none = refl
shown-means (some z) = by (leb (nat_abs z) (2 ^ 30)) refl
  where
    by : (t : Bool) → leb (nat_abs z) (2 ^ 30) ≡ t → Means (cond t (Number z) Far) (some z)
    by true e = (refl, leb-true (nat_abs z) (2 ^ 30) e)
    by false e = (z, (refl, leb-false (nat_abs z) (2 ^ 30) e))

pub means-shown : (r : Rounded) (n : Nearest) → Means r n → r ≡ shown n
unfolding Means shown
means-shown NotFinite n e = sym (ap shown e)
means-shown Far n h = sym (ap shown h.1.0 ∙ far h.0 h.1.1)
  where
    far : (z : ℤ) → 2 ^ 30 < nat_abs z → cond (leb (nat_abs z) (2 ^ 30)) (Number z) Far ≡ Far
    far z k = rw (is_false (leb (nat_abs z) (2 ^ 30)) (lt→nleb (nat_abs z) (2 ^ 30) k))
means-shown (Number z) n h = sym (ap shown h.0 ∙ near-enough h.1)
  where
    near-enough : nat_abs z ≤ 2 ^ 30 → cond (leb (nat_abs z) (2 ^ 30)) (Number z) Far ≡ Number z
    near-enough k = rw (is_true (leb (nat_abs z) (2 ^ 30)) (le→leb (nat_abs z) (2 ^ 30) k))

-- ---- what is shown of a whole number

abs-signed : (s : Bool) (n : ℕ) → nat_abs (signed s n) ≡ n
abs-signed false n = refl
abs-signed true zero = refl
abs-signed true (suc n) = refl

pub shown-number : (s : Bool) (n : ℕ) → n ≤ 2 ^ 30 → shown (some (signed s n)) ≡ Number (signed s n)
unfolding shown
shown-number s n h =
    rw (abs-signed s n, is_true (leb n (2 ^ 30)) (le→leb n (2 ^ 30) h))

pub shown-far : (s : Bool) (n : ℕ) → 2 ^ 30 < n → shown (some (signed s n)) ≡ Far
unfolding shown
shown-far s n h =
    rw (abs-signed s n, is_false (leb n (2 ^ 30)) (lt→nleb n (2 ^ 30) h))

-- ---- a finite value

near-signed : (s : Bool) (n b : ℕ) → near (signed s n) b ≡ signed s (nearest n b)
unfolding near
near-signed false n b = refl
near-signed true n b = near-odd (pos n) b

valued : (v : Float) (s : Bool) (a c : ℕ) → 0 < c → HasValue v s a c → whole_of v ≡ some (signed s (nearest a c))
unfolding whole_of
valued nan s a c p h = absurd h
valued (inf t) s a c p h = absurd h
valued (fin t m e) s a c p h =
    rw (h.0, near-signed s (m * up e) (down e), nearest-same (m * up e) (down e) a c (down_pos e) p h.1)

-- ---- from the fields

no-digits : (s b : Bool) → whole_of (cond b (inf s) nan) ≡ none
unfolding whole_of
no-digits s true = refl
no-digits s false = refl

pub at_top : (s : Bool) (t : ℕ) → whole_of (of_fields binary64 s 2047 t) ≡ none
unfolding of_fields
at_top s t = no-digits s (eqb t 0)

at-bottom : (s : Bool) (t : ℕ) → whole_of (of_fields binary64 s 0 t) ≡ some (signed s (nearest (t * 2 ^ 0) (2 ^ 1074)))
unfolding of_fields
at-bottom s t = valued (odd 53 s t 0 1074) s (t * 2 ^ 0) (2 ^ 1074) (pow_pos 1074) (odd_sign 53 s t 0 1074)

between : (s : Bool) (x t : ℕ) → suc x < 2047 → whole_of (of_fields binary64 s (suc x) t) ≡ some (signed s (nearest ((2 ^ 52 + t) * 2 ^ x) (2 ^ 1074)))
unfolding of_fields
between s x t h =
    rw (is_false (eqb (suc x) 2047) (no_eqb (ne_of_lt h)))
    (valued (odd 53 s (2 ^ 52 + t) x 1074) s ((2 ^ 52 + t) * 2 ^ x) (2 ^ 1074) (pow_pos 1074) (odd_sign 53 s (2 ^ 52 + t) x 1074))

-- ---- the four ranges of the exponent's field

-- from 2^31 on
large : (x t : ℕ) → 1053 ≤ x → 2 ^ 31 * 2 ^ 1074 ≤ (2 ^ 52 + t) * 2 ^ x
large x t l = mul-le-mul (le-add_right (2 ^ 52) t) (pow_mono {i = 1053} {j = x} l)

pub far-above : (s : Bool) (x t : ℕ) → 1053 < x → x < 2047 → shown (whole_of (of_fields binary64 s x t)) ≡ Far
far-above s zero t l h = absurd (omega arith)
far-above s (suc x) t l h =
    ap shown (between s x t h)
    ∙ shown-far s (nearest ((2 ^ 52 + t) * 2 ^ x) (2 ^ 1074))
    (lt_of_lt_of_le (lit< tt) (nearest-least ((2 ^ 52 + t) * 2 ^ x) (2 ^ 1074) (2 ^ 31) (pow_pos 1074) (large x t (le_of_suc-le-suc l))))

-- below a half
signed-zero : (s : Bool) → signed s 0 ≡ pos 0
signed-zero true = refl
signed-zero false = refl

nothing : (s : Bool) (n : ℕ) → n < 2 ^ 1073 → shown (some (signed s (nearest n (2 ^ 1074)))) ≡ Number (pos 0)
nothing s n h =
    ap (λ (k : ℕ). shown (some (signed s k))) (nearest-below-half n (2 ^ 1074) (mul-lt-mul_of_pos_left {k = 2} h (lit< tt)))
    ∙ shown-number s 0 (lit≤ tt)
    ∙ ap Number (signed-zero s)

digits-fit : (t : ℕ) → t < 2 ^ 52 → 2 ^ 52 + t < 2 ^ 53
digits-fit t h = omega arith

pub zero-below : (s : Bool) (x t : ℕ) → x < 1022 → t < 2 ^ 52 → shown (whole_of (of_fields binary64 s x t)) ≡ Number (pos 0)
zero-below s zero t h l =
    ap shown (at-bottom s t) ∙ nothing s (t * 2 ^ 0) (lt_of_lt_of_le (shl_lt 52 0 l) (pow_mono {i = 52} {j = 1073} (lit≤ tt)))
zero-below s (suc x) t h l =
    ap shown (between s x t (omega arith))
    ∙ nothing s ((2 ^ 52 + t) * 2 ^ x) (lt_of_lt_of_le (shl_lt 53 x (digits-fit t l)) (pow_mono {i = 53 + x} {j = 1073} (omega arith)))

-- from a half up to 2^31, where the digits are rounded
shift : (q x : ℕ) → x ≤ 1074 → nearest (q * 2 ^ x) (2 ^ 1074) ≡ nearest q (2 ^ (1074 - x))
shift q x h =
    let e : x + (1074 - x) ≡ 1074 = omega arith in
    nearest-same (q * 2 ^ x) (2 ^ 1074) q (2 ^ (1074 - x)) (pow_pos 1074) (pow_pos (1074 - x))
    (mul_assoc q (2 ^ x) (2 ^ (1074 - x)) ∙ ap (λ (y : ℕ). q * y) (sym (pow-add 2 x (1074 - x)) ∙ ap (λ (y : ℕ). 2 ^ y) e))

pub rounded : (s : Bool) (x t : ℕ) → 0 < x → x ≤ 1053 → whole_of (of_fields binary64 s x t) ≡ some (signed s (nearest (t + 2 ^ 52) (2 ^ (1075 - x))))
rounded s zero t h l = absurd (omega arith)
rounded s (suc x) t h l =
    let e : 1074 - x ≡ 1075 - suc x = omega arith in
    between s x t (omega arith)
    ∙ ap (λ (k : ℕ). some (signed s k))
    (shift (2 ^ 52 + t) x (omega arith)
    ∙ ap (λ (q : ℕ). nearest q (2 ^ (1074 - x))) (add_comm (2 ^ 52) t)
    ∙ ap (λ (k : ℕ). nearest (t + 2 ^ 52) (2 ^ k)) e)

-- By the four ranges of the exponent's field.
use mathlib.Core.Path.{◌≡◌, sym, ap, ◌∙◌, subst}
use mathlib.Core.Bool.{Bool}
use Prim.Native.Nat.{ℕ, ◌+◌, ◌-◌, ◌*◌, ◌/◌, ◌%◌, ◌^◌, ◌≤◌, ◌<◌}
use native.Mathlib.Nat.{mod-lt, one-mul}
use native.Mathlib.Numerals.{one-add}
use native.Mathlib.Omega.{arith}
use borrow.Author.Rules.{rules}
use borrow.Author.Tests.{le-leb, lt-leb}
use lib.Dec.{T, leb, lit<}
use lib.IntN.{pos, ◌-ℤ◌}
use lib.Ieee.{Float, of_bits, to_bits, fits, of_fields, binary64}
use lib.Ieee.Bits.{of_bits-to_bits}
use lib.Pow.{shl_exact}
use mir.Syntax.{w64}
use mir.Val.{to_z, of_z}
use Rattle.algebra.proofs.Machine.{Va, of_u, vneg, at}
use Rattle.numbers.specs.declared.Rounded.{Rounded}
use Rattle.numbers.specs.declared.Rounded.TheVariants.{NotFinite, Far, Number}
use Rattle.numbers.specs.Near.{nearest}
use Rattle.numbers.specs.Whole.{signed, some, whole_of, Means, shown}
use Rattle.numbers.proofs.WholeLaws.{shown-means, at_top, far-above, zero-below, rounded, shown-number, shown-far}
use Rattle.numbers.proofs.whole.Goals as goal

none_at_top : (b : ℕ) → b % 9223372036854775808 / 4503599627370496 ≡ 2047 → NotFinite ≡ shown (whole_of (of_bits binary64 b))
unfolding of_bits shown
none_at_top b e =
    sym (ap (λ (x : ℕ). shown (whole_of (of_fields binary64 (leb (2 ^ 63) b) x (b % 2 ^ 52)))) e
    ∙ ap shown (at_top (leb (2 ^ 63) b) (b % 2 ^ 52)))

-- the field has 11 bits, so what is not 2047 is less
below_top : (b : ℕ) → (b % 9223372036854775808 / 4503599627370496 ≡ 2047 → ⊥) → b % 9223372036854775808 / 4503599627370496 < 2047
below_top b ne = omega (arith, mod-lt b {m = 9223372036854775808} (lit< tt))

far-there : (b : ℕ) → 1053 < b % 9223372036854775808 / 4503599627370496 → b % 9223372036854775808 / 4503599627370496 < 2047 → Far ≡ shown (whole_of (of_bits binary64 b))
unfolding of_bits
far-there b l h = sym (far-above (leb (2 ^ 63) b) (b % 9223372036854775808 / 4503599627370496) (b % 2 ^ 52) l h)

zero-there : (b : ℕ) → b % 9223372036854775808 / 4503599627370496 < 1022 → Number (pos 0) ≡ shown (whole_of (of_bits binary64 b))
unfolding of_bits
zero-there b h = sym (zero-below (leb (2 ^ 63) b) (b % 9223372036854775808 / 4503599627370496) (b % 2 ^ 52) h (mod-lt b (lit< tt)))

-- `1 << k` is 2^k, for a shift below 64
one_shl : (k : ℕ) → k < 64 → (1 * 2 ^ k) % 2 ^ 64 ≡ 2 ^ k
one_shl k h = shl_exact {a = 1} 1 k 64 (lit< tt) (rw (one-add k) h) ∙ one-mul (2 ^ k)

middle : (b r : ℕ) → 1022 ≤ b % 9223372036854775808 / 4503599627370496 → b % 9223372036854775808 / 4503599627370496 ≤ 1053
    → r ≡ nearest (b % 4503599627370496 + 4503599627370496) ((1 * 2 ^ (1075 - b % 9223372036854775808 / 4503599627370496)) % 2 ^ 64)
    → whole_of (of_bits binary64 b) ≡ some (signed (leb (2 ^ 63) b) r)
unfolding of_bits
middle b r l h e =
    let x = b % 9223372036854775808 / 4503599627370496 in
    rounded (leb (2 ^ 63) b) x (b % 2 ^ 52) (omega arith) h
    ∙ ap (λ (k : ℕ). some (signed (leb (2 ^ 63) b) k)) (sym (e ∙ ap (λ (d : ℕ). nearest (b % 4503599627370496 + 4503599627370496) d) (one_shl (1075 - x) (omega arith))))

-- at most 2^30, as an i64
value : (r : ℕ) → r ≤ 1073741824 → Va (to_z w64 r) (pos r) 1073741824
value r h = of_u h (lit< tt)

far-is : (b r : ℕ) → whole_of (of_bits binary64 b) ≡ some (signed (leb (2 ^ 63) b) r) → 1073741824 < r → Far ≡ shown (whole_of (of_bits binary64 b))
far-is b r m h = sym (ap shown m ∙ shown-far (leb (2 ^ 63) b) r h)

upward : (b r : ℕ) → whole_of (of_bits binary64 b) ≡ some (signed (leb (2 ^ 63) b) r) → r ≤ 1073741824 → b < 9223372036854775808
    → Number (to_z w64 r) ≡ shown (whole_of (of_bits binary64 b))
upward b r m n h =
    ap Number (value r n).told
    ∙ sym (ap shown m ∙ shown-number (leb (2 ^ 63) b) r n ∙ ap (λ (s : Bool). Number (signed s r)) (lt-leb (2 ^ 63) b h))

downward : (b r : ℕ) → whole_of (of_bits binary64 b) ≡ some (signed (leb (2 ^ 63) b) r) → r ≤ 1073741824 → 9223372036854775808 ≤ b
    → Number (to_z w64 (of_z w64 (pos 0 -ℤ to_z w64 r))) ≡ shown (whole_of (of_bits binary64 b))
downward b r m n h =
    ap Number (at (vneg (value r n)) (lit< tt)).told
    ∙ sym (ap shown m ∙ shown-number (leb (2 ^ 63) b) r n ∙ ap (λ (s : Bool). Number (signed s r)) (le-leb (2 ^ 63) b h))

-- the case that is answered for the bits means what it says of the double
meant : (r : Rounded) (x : Float) (b : ℕ) → T (fits binary64 x) → b ≡ to_bits binary64 x → r ≡ shown (whole_of (of_bits binary64 b)) → Means r (whole_of x)
meant r x b f e h =
    subst (λ (q : Rounded). Means q (whole_of x))
    (sym (h ∙ ap (λ (n : ℕ). shown (whole_of (of_bits binary64 n))) e ∙ ap (λ (y : Float). shown (whole_of y)) (of_bits-to_bits binary64 x f)))
    (shown-means (whole_of x))

pub returns-then-exponent-eq-NO_NUMBER : goal.returns-then-exponent-eq-NO_NUMBER
returns-then-exponent-eq-NO_NUMBER c =
    meant _ c.args.x c.f64_to_bits_with_nan-b.result (search rules) (cc)
    (none_at_top c.f64_to_bits_with_nan-b.result (omega arith))

pub returns-then-exponent : goal.returns-then-exponent
returns-then-exponent c =
    meant _ c.args.x c.f64_to_bits_with_nan-b.result (search rules) (cc)
    (far-there c.f64_to_bits_with_nan-b.result (omega arith) (below_top c.f64_to_bits_with_nan-b.result (λ e. omega arith)))

pub returns-then-exponent-lt-HALF : goal.returns-then-exponent-lt-HALF
returns-then-exponent-lt-HALF c =
    meant _ c.args.x c.f64_to_bits_with_nan-b.result (search rules) (cc)
    (zero-there c.f64_to_bits_with_nan-b.result (omega arith))

pub returns-then-n-gt-FARTHEST : goal.returns-then-n-gt-FARTHEST
returns-then-n-gt-FARTHEST c =
    meant _ c.args.x c.f64_to_bits_with_nan-b.result (search rules) (cc)
    (far-is c.f64_to_bits_with_nan-b.result c.nearest-n.result (middle c.f64_to_bits_with_nan-b.result c.nearest-n.result (omega arith) (omega arith) (cc)) (omega arith))

pub returns-then-negative : goal.returns-then-negative
returns-then-negative c =
    meant _ c.args.x c.f64_to_bits_with_nan-b.result (search rules) (cc)
    (downward c.f64_to_bits_with_nan-b.result c.nearest-n.result (middle c.f64_to_bits_with_nan-b.result c.nearest-n.result (omega arith) (omega arith) (cc)) (omega arith) (omega arith))

pub returns-else-negative : goal.returns-else-negative
returns-else-negative c =
    meant _ c.args.x c.f64_to_bits_with_nan-b.result (search rules) (cc)
    (upward c.f64_to_bits_with_nan-b.result c.nearest-n.result (middle c.f64_to_bits_with_nan-b.result c.nearest-n.result (omega arith) (omega arith) (cc)) (omega arith) (omega arith))

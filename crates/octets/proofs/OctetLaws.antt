-- The laws that other crates cite: what is written is read back, what was read is written back, and nothing else changes.
-- All are over the width n, for lists of bytes of any length.
use mathlib.Core.Path.{◌≡◌, sym, ap, ◌∙◌}
use mathlib.Core.List.{List}
use Prim.Native.Nat.{ℕ, ◌+◌, ◌≤◌}
use native.Mathlib.Nat.{mod-eq_of_lt, zero-add}
use native.Mathlib.Omega.{arith}
use lib.IntN.{ℤ}
use lib.ListN.{length, get_or, take, drop}
use Rattle.octets.specs.Octets.{unsigned_at, signed_of, signed_at, digits_of, residue, bytes_of, splice}
use Rattle.octets.proofs.DigitLaws.{length_digits, digits_value, digits-unsigned}
pub use Rattle.octets.proofs.ReadLaws.{Bytes, Signed, unsigned-lt, unsigned-same, unsigned-one, signed-in, residue-lt, residue-signed, signed-residue}
pub use Rattle.octets.proofs.SpliceLaws.{Apart, length-splice, splice-is, splice_all, splice-append, part-splice, splice-part, get_or-apart, get_or-splice, bytes-splice}

-- ---- the bytes of a number

pub length-bytes : (n : ℕ) (z : ℤ) → length (bytes_of n z) ≡ n
unfolding bytes_of
length-bytes n z = length_digits n (residue n z)

pub unsigned_bytes : (n : ℕ) (z : ℤ) → unsigned_at (bytes_of n z) 0 n ≡ residue n z
unfolding bytes_of
unsigned_bytes n z = digits_value n (residue n z) ∙ mod-eq_of_lt (residue-lt n z)

pub signed-bytes : (n : ℕ) (z : ℤ) → 1 ≤ n → Signed n z → signed_at (bytes_of n z) 0 n ≡ z
unfolding signed_at
signed-bytes n z k h = ap (signed_of n) (unsigned_bytes n z) ∙ signed-residue n z k h

-- ---- what is written is read back

pub unsigned-splice : (s : List ℕ) (at n : ℕ) (bs : List ℕ) → length bs ≡ n → at + n ≤ length s
    → unsigned_at (splice s at bs) at n ≡ unsigned_at bs 0 n
unsigned-splice s at n bs e h =
    unsigned-same (splice s at bs) bs at 0 n
    (λ i l. get_or-splice s at bs i (omega arith) (omega arith) ∙ ap (λ (k : ℕ). get_or bs k 0) (sym (zero-add i)))

pub read_back : (s : List ℕ) (at n : ℕ) (z : ℤ) → at + n ≤ length s → 1 ≤ n → Signed n z
    → signed_at (splice s at (bytes_of n z)) at n ≡ z
unfolding signed_at
read_back s at n z h k l =
    ap (signed_of n) (unsigned-splice s at n (bytes_of n z) (length-bytes n z) h) ∙ signed-bytes n z k l

-- ---- what was read is written back

pub bytes_signed : (s : List ℕ) (at n : ℕ) → Bytes s → at + n ≤ length s → bytes_of n (signed_at s at n) ≡ take n (drop at s)
unfolding bytes_of signed_at
bytes_signed s at n b h =
    ap (digits_of n) (residue-signed n (unsigned_at s at n) (unsigned-lt s at n b)) ∙ digits-unsigned s at n b h

pub write-back : (s : List ℕ) (at n : ℕ) → Bytes s → at + n ≤ length s → splice s at (bytes_of n (signed_at s at n)) ≡ s
write-back s at n b h = ap (splice s at) (bytes_signed s at n b h) ∙ splice-part s at n h

-- ---- what stands elsewhere

pub unsigned-apart : (s : List ℕ) (at : ℕ) (bs : List ℕ) (place n : ℕ) → Apart place n at (length bs)
    → unsigned_at (splice s at bs) place n ≡ unsigned_at s place n
unsigned-apart s at bs place n h =
    unsigned-same (splice s at bs) s place place n (λ i l. get_or-apart s at bs (place + i) (omega arith))

pub signed-apart : (s : List ℕ) (at : ℕ) (bs : List ℕ) (place n : ℕ) → Apart place n at (length bs)
    → signed_at (splice s at bs) place n ≡ signed_at s place n
unfolding signed_at
signed-apart s at bs place n h = ap (signed_of n) (unsigned-apart s at bs place n h)

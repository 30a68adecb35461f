-- z's own bytes are the digits of z mod 2^64, and the last n of these are those of z mod 256^n.
use mathlib.Core.Path.{refl, sym, ap, ap₂, ◌∙◌}
use native.Mathlib.Nat.{mod-eq_of_lt, div-div-eq-div-mul, pow-succ'}
use native.Mathlib.Omega.{arith}
use Rattle.std.proofs.Common.{ℕ, zero, suc, List, [], ◌∷◌, ◌++◌, ◌≡◌, ◌+◌, ◌-◌, ◌/◌, ◌%◌, ◌^◌, ◌≤◌, min, take, drop, w64, ℤ, pos, negsuc, to_z, of_z, FitsSigned}
use Rattle.std.proofs.lemmas.Int.{to_z-of_z}
use Rattle.std.proofs.Math.Seq.{take-length}
use Rattle.std.specs.Int.{to_be_bytes, bytes_high_first, byte_at}
use Rattle.octets.specs.Octets.{splice, digits_of, residue}
use Rattle.octets.proofs.DigitLaws.{length_digits, digits-residue}
use Rattle.octets.proofs.put_signed.Goals as goal

higher : (i n : ℕ) → byte_at (suc i) n ≡ byte_at i (n / 256)
higher zero n = refl
higher (suc i) n = ap (λ (m : ℕ). n / m % 256) (pow-succ' 256 (suc i)) ∙ ap (λ (m : ℕ). m % 256) (sym (div-div-eq-div-mul n 256 (256 ^ suc i)))

-- the lowest byte is the last
lowest : (k n : ℕ) → bytes_high_first (suc k) n ≡ bytes_high_first k (n / 256) ++ (n % 256 ∷ [])
lowest zero n = refl
lowest (suc k) n = ap₂ (λ (b : ℕ) (t : List ℕ). b ∷ t) (higher k n) (lowest k n)

digits-high : (k n : ℕ) → bytes_high_first k n ≡ digits_of k n
unfolding digits_of
digits-high zero n = refl
digits-high (suc k) n = lowest k n ∙ ap (λ (t : List ℕ). t ++ (n % 256 ∷ [])) (digits-high k (n / 256))

dropped : (j k m n : ℕ) → m ≡ j + k → drop j (bytes_high_first m n) ≡ bytes_high_first k n
dropped zero k m n e = let f : m ≡ k = omega arith in rw f
dropped (suc j) k m n e = let f : m ≡ suc (j + k) = omega arith in rw f (dropped j k (j + k) n refl)

-- the last k bytes of a number are its last k digits
last : (k u : ℕ) → k ≤ 8 → take (8 - (8 - k)) (drop (8 - k) (to_be_bytes w64 u)) ≡ digits_of k u
last k u h =
    let e : 8 - (8 - k) ≡ k = omega arith in
    ap₂ (take {A = ℕ}) (e ∙ sym (length_digits k u)) (dropped (8 - k) k 8 u (omega arith) ∙ digits-high k u) ∙ take-length (digits_of k u)

-- the machine's z is z mod 2^64
itself : (z : ℤ) → FitsSigned w64 z → of_z w64 z ≡ residue 8 z
unfolding residue
itself (pos m) f = let h = f.sfits in sym (mod-eq_of_lt {n = m} {m = 256 ^ 8} (omega arith))
itself (negsuc m) f = let h = f.sfits in let e = mod-eq_of_lt {n = m} {m = 256 ^ 8} (omega arith) in rw e

pub returns : goal.returns
returns c =
    let a = c.args in
    let u : ℕ = of_z w64 (to_z w64 (of_z w64 a.z)) in
    let z : u ≡ residue 8 a.z = ap (of_z w64) (to_z-of_z w64 a.z c.ranges.z) ∙ itself a.z c.ranges.z in
    let e : c.to_be_bytes-bytes.result ≡ to_be_bytes w64 u = cc in
    let p : c.put_bytes.new.out ≡ splice a.out.now a.at (take (8 - (8 - c.width.result)) (drop (8 - c.width.result) c.to_be_bytes-bytes.result)) = cc in
    p
    ∙ ap (splice a.out.now a.at)
    (ap₂ (λ (k : ℕ) (bs : List ℕ). take (8 - (8 - k)) (drop (8 - k) bs)) c.width.ensures e
    ∙ last (min a.n 8) u (omega arith)
    ∙ ap (digits_of (min a.n 8)) z
    ∙ digits-residue (min a.n 8) 8 a.z (omega arith))

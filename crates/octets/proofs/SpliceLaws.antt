-- A run of bytes put into a list: its length, what stands there after, and what stands elsewhere.
use mathlib.Core.Path.{◌≡◌, refl, sym, ap, ◌∙◌}
use mathlib.Core.List.{List, [], ◌∷◌, ◌++◌, append_assoc, append-nil}
use Prim.Native.Nat.{ℕ, zero, suc, ◌+◌, ◌≤◌, ◌<◌, min, max}
use native.Mathlib.Nat.{add-zero}
use native.Mathlib.Omega.{arith}
use lib.ListN.{length, get_or, set, take, drop, length-set, drop_of_length-le}
use lib.Seq.{sets, sets-eq, length-sets, drop-cons, set-get_or, set_comm, get_or-set_same, get_or-set_other, length-take-le, drop_at, take-append_seam}
use Rattle.octets.specs.Octets.{splice}
use Rattle.octets.proofs.ReadLaws.{Bytes}

-- the n bytes from `place` on and the m bytes from `at` on have none in common
abbrev pub Apart : ℕ → ℕ → ℕ → ℕ → Type 0
Apart place n at m = min (place + n) (at + m) ≤ max place at

-- the kit's name for it
splice-sets : (bs s : List ℕ) (at : ℕ) → splice s at bs ≡ sets s at bs
unfolding splice
splice-sets [] s at = refl
splice-sets (b ∷ bs) s at = splice-sets bs (set s at b) (suc at)

pub length-splice : (s : List ℕ) (at : ℕ) (bs : List ℕ) → length (splice s at bs) ≡ length s
length-splice s at bs = ap length (splice-sets bs s at) ∙ length-sets s at bs

pub splice-is : (s : List ℕ) (at : ℕ) (bs : List ℕ) → at + length bs ≤ length s
    → splice s at bs ≡ take at s ++ (bs ++ drop (at + length bs) s)
splice-is s at bs h =
    splice-sets bs s at ∙ sets-eq bs s at h ∙ append_assoc (take at s) bs (drop (at + length bs) s)

-- a run that is as long as the list takes its place
pub splice_all : (s bs : List ℕ) → length bs ≡ length s → splice s 0 bs ≡ bs
splice_all s bs e =
    splice-is s 0 bs (omega arith)
    ∙ ap (λ (t : List ℕ). bs ++ t) (drop_of_length-le s {i = 0 + length bs} (omega arith))
    ∙ append-nil bs

-- two runs in a row are one
pub splice-append : (s : List ℕ) (at : ℕ) (bs cs : List ℕ) → splice s at (bs ++ cs) ≡ splice (splice s at bs) (at + length bs) cs
unfolding splice
splice-append s at [] cs = ap (λ (k : ℕ). splice s k cs) (sym (add-zero at))
splice-append s at (b ∷ bs) cs =
    let e : suc at + length bs ≡ at + suc (length bs) = omega arith in
    splice-append (set s at b) (suc at) bs cs ∙ ap (λ (k : ℕ). splice (splice (set s at b) (suc at) bs) k cs) e

-- the run can be cut out again
pub part-splice : (s : List ℕ) (at : ℕ) (bs : List ℕ) → at + length bs ≤ length s → take (length bs) (drop at (splice s at bs)) ≡ bs
part-splice s at bs h =
    ap (λ (t : List ℕ). take (length bs) (drop at t)) (splice-is s at bs h)
    ∙ ap (take (length bs)) (drop_at (take at s) (bs ++ drop (at + length bs) s) at (length-take-le at s (omega arith)))
    ∙ take-append_seam bs (drop (at + length bs) s)

-- what stands there already changes nothing
pub splice-part : (s : List ℕ) (at n : ℕ) → at + n ≤ length s → splice s at (take n (drop at s)) ≡ s
unfolding splice
splice-part s at zero h = refl
splice-part s at (suc n) h =
    ap (λ (t : List ℕ). splice s at (take (suc n) t)) (drop-cons s at 0 (omega arith))
    ∙ ap (λ (t : List ℕ). splice t (suc at) (take n (drop (suc at) s))) (set-get_or s at 0)
    ∙ splice-part s (suc at) n (omega arith)

pub get_or-apart : (s : List ℕ) (at : ℕ) (bs : List ℕ) (i : ℕ) → Apart i 1 at (length bs) → get_or (splice s at bs) i 0 ≡ get_or s i 0
unfolding splice
get_or-apart s at [] i h = refl
get_or-apart s at (b ∷ bs) i h = get_or-apart (set s at b) (suc at) bs i (omega arith) ∙ get_or-set_other s at i b 0 (omega arith)

pub get_or-splice : (s : List ℕ) (at : ℕ) (bs : List ℕ) (i : ℕ) → at + length bs ≤ length s → i < length bs
    → get_or (splice s at bs) (at + i) 0 ≡ get_or bs i 0
unfolding splice
get_or-splice s at [] i h l = absurd (omega arith)
get_or-splice s at (b ∷ bs) zero h l =
    get_or-apart (set s at b) (suc at) bs (at + 0) (omega arith)
    ∙ ap (λ (k : ℕ). get_or (set s at b) k 0) (add-zero at)
    ∙ get_or-set_same s at b 0 (omega arith)
get_or-splice s at (b ∷ bs) (suc i) h l =
    let e : at + suc i ≡ suc at + i = omega arith in
    ap (λ (k : ℕ). get_or (splice (set s at b) (suc at) bs) k 0) e
    ∙ get_or-splice (set s at b) (suc at) bs i (simp length-set (omega arith)) (omega arith)

-- the last byte of a run can be put first
pub splice-last : (s : List ℕ) (at : ℕ) (bs : List ℕ) (b : ℕ)
    → splice s at (bs ++ (b ∷ [])) ≡ splice (set s (at + length bs) b) at bs
unfolding splice
splice-last s at [] b = ap (λ (k : ℕ). set s k b) (sym (add-zero at))
splice-last s at (x ∷ bs) b =
    let e : suc at + length bs ≡ at + suc (length bs) = omega arith in
    splice-last (set s at x) (suc at) bs b
    ∙ ap (λ (k : ℕ). splice (set (set s at x) k b) (suc at) bs) e
    ∙ ap (λ (t : List ℕ). splice t (suc at) bs) (set_comm s at (at + suc (length bs)) x b (omega arith))

bytes-set : (s : List ℕ) (at b : ℕ) → Bytes s → b < 256 → Bytes (set s at b)
bytes-set [] at b p h i = p i
bytes-set (x ∷ s) zero b p h zero = h
bytes-set (x ∷ s) zero b p h (suc i) = p (suc i)
bytes-set (x ∷ s) (suc at) b p h zero = p zero
bytes-set (x ∷ s) (suc at) b p h (suc i) = bytes-set s at b (λ i. p (suc i)) h i

pub bytes-splice : (s : List ℕ) (at : ℕ) (bs : List ℕ) → Bytes s → Bytes bs → Bytes (splice s at bs)
unfolding splice
bytes-splice s at [] p q = p
bytes-splice s at (b ∷ bs) p q = bytes-splice (set s at b) (suc at) bs (bytes-set s at b p (q zero)) (λ i. q (suc i))

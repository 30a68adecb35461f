-- Fields in a row, read and written: what was written in widths is read back, and what was read is written back. One law for every
-- record, over its list of widths.
use mathlib.Core.Path.{◌≡◌, refl, sym, ap, ap₂, ◌∙◌, subst}
use mathlib.Core.List.{List, [], ◌∷◌, ◌++◌, append_assoc}
use Prim.Native.Nat.{ℕ, ◌+◌, ◌*◌, ◌^◌, ◌≤◌, ◌<◌}
use native.Mathlib.Nat.{zero-add, add-zero}
use native.Mathlib.Omega.{arith}
use lib.ListN.{length, get_or, take, drop, get_or-append}
use lib.Seq.{drop-cons, drop_at, take_at, take-add, drop-drop, get_or-drop, get_or-append-add}
use lib.IntN.{ℤ, pos, negsuc, nat_abs}
use lib.Signed.{mag}
use Rattle.octets.specs.Octets.{bytes_of, signed_of, signed_at}
use Rattle.octets.proofs.OctetLaws.{Bytes, Signed, unsigned-same, length-bytes, signed-bytes, bytes_signed}
use Rattle.mark.specs.declared.Vec3.{Vec3}
use Rattle.mark.specs.Ranges.{Within}
use Rattle.layout.specs.Layout.{Fields, run, three, first_twelve}
use Rattle.layout.proofs.LayoutLaws.{widths, total, length-head}

-- the numbers in fields of these widths from place `at` on
abbrev pub fields_at : List ℕ → ℕ → List ℕ → Fields
fields_at s at [] = []
fields_at s at (w ∷ ws) = (w, signed_at s at w) ∷ fields_at s (at + w) ws

-- each number is one of its width
abbrev pub Ranged : Fields → Type 0
Ranged [] = Unit
Ranged (field ∷ rest) = (1 ≤ field.0) × Signed field.0 field.1 × Ranged rest

-- ---- numbers that fit their widths

mag-abs : (z : ℤ) → mag z ≤ nat_abs z
mag-abs (pos n) = omega arith
mag-abs (negsuc n) = omega arith

pub signed-size : (w : ℕ) (z : ℤ) (n : ℕ) → nat_abs z ≤ n → 2 * n < 256 ^ w → Signed w z
signed-size w z n h k = omega (arith, mag-abs z)

pub ranged-three : (w : ℕ) (v : Vec3) (n : ℕ) (rest : Fields) → 1 ≤ w → Within n v → 2 * n < 256 ^ w → Ranged rest → Ranged (three w v rest)
ranged-three w v n rest p h k r =
    (p, signed-size w v.x n h.x k, (p, signed-size w v.y n h.y k, (p, signed-size w v.z n h.z k, r)))

-- ---- what was written is read

read-field : (s t : List ℕ) (at n : ℕ) (z : ℤ) → drop at s ≡ bytes_of n z ++ t → 1 ≤ n → Signed n z → signed_at s at n ≡ z
unfolding signed_at
read-field s t at n z e k h =
    ap (signed_of n)
    (unsigned-same s (bytes_of n z) at 0 n
    (λ i l.
    sym (get_or-drop at s i 0)
    ∙ ap (λ (u : List ℕ). get_or u i 0) e
    ∙ get_or-append (bytes_of n z) t 0 i (omega (arith, length-bytes n z))
    ∙ ap (λ (j : ℕ). get_or (bytes_of n z) j 0) (sym (zero-add i))))
    ∙ signed-bytes n z k h

read_next : (s t : List ℕ) (at n : ℕ) (z : ℤ) → drop at s ≡ bytes_of n z ++ t → drop (at + n) s ≡ t
read_next s t at n z e = sym (drop-drop n at s) ∙ ap (drop n) e ∙ drop_at (bytes_of n z) t n (length-bytes n z)

pub read-run : (s tail : List ℕ) (at : ℕ) (fs : Fields) → drop at s ≡ run fs ++ tail → Ranged fs → fields_at s at (widths fs) ≡ fs
unfolding run
read-run s tail at [] e r = refl
read-run s tail at (f ∷ rest) e r =
    let h : drop at s ≡ bytes_of f.0 f.1 ++ (run rest ++ tail) = e ∙ append_assoc (bytes_of f.0 f.1) (run rest) tail in
    ap₂ (λ (z : ℤ) (more : Fields). (f.0, z) ∷ more)
    (read-field s (run rest ++ tail) at f.0 f.1 h r.0 r.1)
    (read-run s tail (at + f.0) rest (read_next s (run rest ++ tail) at f.0 f.1 h) r.2)

-- the bytes after them
pub read_past : (s tail : List ℕ) (at : ℕ) (fs : Fields) → drop at s ≡ run fs ++ tail → drop (at + total (widths fs)) s ≡ tail
unfolding run
read_past s tail at [] e = ap (λ (k : ℕ). drop k s) (add-zero at) ∙ e
read_past s tail at (f ∷ rest) e =
    let h : drop at s ≡ bytes_of f.0 f.1 ++ (run rest ++ tail) = e ∙ append_assoc (bytes_of f.0 f.1) (run rest) tail in
    let k : at + (f.0 + total (widths rest)) ≡ at + f.0 + total (widths rest) = omega arith in
    ap (λ (k : ℕ). drop k s) k ∙ read_past s tail (at + f.0) rest (read_next s (run rest ++ tail) at f.0 f.1 h)

-- ---- what was read is written

pub write-run : (s : List ℕ) (at : ℕ) (ws : List ℕ) → Bytes s → at + total ws ≤ length s → run (fields_at s at ws) ≡ take (total ws) (drop at s)
unfolding run
write-run s at [] b h = refl
write-run s at (w ∷ ws) b h =
    ap₂ (λ (x y : List ℕ). x ++ y)
    (bytes_signed s at w b (omega arith))
    (write-run s (at + w) ws b (omega arith) ∙ ap (take (total ws)) (sym (drop-drop w at s)))
    ∙ sym (take-add w (total ws) (drop at s))

-- ---- the first twelve bytes

-- what stands in them, and after them
pub record HeadOf (s site : List ℕ) (frame tide : ℕ) (rest : List ℕ) : Type 0 where
  pub site-is : take 9 s ≡ site
  pub frame_is : get_or s 9 0 ≡ frame
  pub tide-is : get_or s 10 0 ≡ tide
  pub zero_is : get_or s 11 0 ≡ 0
  pub rest-is : drop 12 s ≡ rest

past-site : (site rest : List ℕ) (k : ℕ) → length site ≡ 9 → get_or (site ++ rest) (9 + k) 0 ≡ get_or rest k 0
past-site site rest k e = subst (λ (n : ℕ). get_or (site ++ rest) (n + k) 0 ≡ get_or rest k 0) e (get_or-append-add site rest k 0)

pub read_head : (site : List ℕ) (frame tide : ℕ) (rest : List ℕ) → length site ≡ 9 → HeadOf (first_twelve site frame tide ++ rest) site frame tide rest
unfolding first_twelve
read_head site frame tide rest e =
    let q : (site ++ (frame ∷ tide ∷ 0 ∷ [])) ++ rest ≡ site ++ (frame ∷ tide ∷ 0 ∷ rest) = append_assoc site (frame ∷ tide ∷ 0 ∷ []) rest in
    record {
      site-is = ap (take 9) q ∙ take_at site (frame ∷ tide ∷ 0 ∷ rest) 9 e;
      frame_is = ap (λ (s : List ℕ). get_or s 9 0) q ∙ past-site site (frame ∷ tide ∷ 0 ∷ rest) 0 e;
      tide-is = ap (λ (s : List ℕ). get_or s 10 0) q ∙ past-site site (frame ∷ tide ∷ 0 ∷ rest) 1 e;
      zero_is = ap (λ (s : List ℕ). get_or s 11 0) q ∙ past-site site (frame ∷ tide ∷ 0 ∷ rest) 2 e;
      rest-is = drop_at (first_twelve site frame tide) rest 12 (length-head site frame tide e);
    }

pub write-head : (s : List ℕ) → 12 ≤ length s → get_or s 11 0 ≡ 0 → first_twelve (take 9 s) (get_or s 9 0) (get_or s 10 0) ≡ take 12 s
unfolding first_twelve
write-head s h z =
    ap (λ (b : ℕ). take 9 s ++ (get_or s 9 0 ∷ get_or s 10 0 ∷ b ∷ [])) (sym z)
    ∙ ap (λ (t : List ℕ). take 9 s ++ take 3 t)
    (sym
    (drop-cons s 9 0 (omega arith)
    ∙ ap (λ (t : List ℕ). get_or s 9 0 ∷ t) (drop-cons s 10 0 (omega arith))
    ∙ ap (λ (t : List ℕ). get_or s 9 0 ∷ get_or s 10 0 ∷ t) (drop-cons s 11 0 (omega arith))))
    ∙ sym (take-add 9 3 s)

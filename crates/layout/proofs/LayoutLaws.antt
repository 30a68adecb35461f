-- The layout, over lists of (width, number) fields: how long a run of fields is, and that fields put one after the other at consecutive
-- places are the run put at once.
use mathlib.Core.Path.{◌≡◌, refl, ap, ap₂, ◌∙◌}
use mathlib.Core.List.{List, [], ◌∷◌, ◌++◌}
use Prim.Native.Nat.{ℕ, ◌+◌, ◌*◌, ◌≤◌}
use native.Mathlib.Omega.{arith}
use borrow.Author.Tests.{le-ltb}
use lib.ListN.{length, take, length-append}
use lib.IntN.{ℤ}
use Rattle.octets.specs.Octets.{bytes_of, splice}
use Rattle.octets.proofs.OctetLaws.{length-bytes, splice-append}
use Rattle.mark.specs.declared.Vec3.{Vec3}
use Rattle.layout.specs.Layout.{Fields, run, three, first_twelve, site_of, spliced, headed}

-- ---- the first nine bytes

pub site-long : (s : List ℕ) → 9 ≤ length s → site_of s ≡ take 9 s
unfolding site_of
site-long s h = rw (le-ltb (length s) 9 h)

-- ---- lengths

abbrev pub widths : Fields → List ℕ
widths [] = []
widths (field ∷ rest) = field.0 ∷ widths rest

-- the bytes of all fields together
abbrev pub total : List ℕ → ℕ
total [] = 0
total (w ∷ ws) = w + total ws

pub length_run : (fs : Fields) → length (run fs) ≡ total (widths fs)
unfolding run
length_run [] = refl
length_run (f ∷ rest) = length-append (bytes_of f.0 f.1) (run rest) ∙ ap₂ (λ (a b : ℕ). a + b) (length-bytes f.0 f.1) (length_run rest)

pub length-head : (site : List ℕ) (frame tide : ℕ) → length site ≡ 9 → length (first_twelve site frame tide) ≡ 12
unfolding first_twelve
length-head site frame tide e = length-append site (frame ∷ tide ∷ 0 ∷ []) ∙ ap (λ (k : ℕ). k + 3) e

-- ---- one after the other is at once

pub splice-run : (s : List ℕ) (at w : ℕ) (z : ℤ) (rest : Fields)
    → splice s at (run ((w, z) ∷ rest)) ≡ splice (splice s at (bytes_of w z)) (at + w) (run rest)
unfolding run
splice-run s at w z rest =
    splice-append s at (bytes_of w z) (run rest)
    ∙ ap (λ (k : ℕ). splice (splice s at (bytes_of w z)) (at + k) (run rest)) (length-bytes w z)

pub splice-three : (s : List ℕ) (at w : ℕ) (v : Vec3) (rest : Fields)
    → splice s at (run (three w v rest)) ≡ splice (spliced s at w v) (at + 3 * w) (run rest)
unfolding spliced
splice-three s at w v rest =
    let a : List ℕ = splice s at (bytes_of w v.x) in
    let b : List ℕ = splice a (at + w) (bytes_of w v.y) in
    let c : List ℕ = splice b (at + 2 * w) (bytes_of w v.z) in
    let e : at + w + w ≡ at + 2 * w = omega arith in
    let f : at + 2 * w + w ≡ at + 3 * w = omega arith in
    splice-run s at w v.x ((w, v.y) ∷ (w, v.z) ∷ rest)
    ∙ splice-run a (at + w) w v.y ((w, v.z) ∷ rest)
    ∙ ap (λ (k : ℕ). splice b k (run ((w, v.z) ∷ rest))) e
    ∙ splice-run b (at + 2 * w) w v.z rest
    ∙ ap (λ (k : ℕ). splice c k (run rest)) f

pub splice-head : (s site : List ℕ) (frame tide : ℕ) (rest : List ℕ) → length site ≡ 9
    → splice s 0 (first_twelve site frame tide ++ rest) ≡ splice (headed s site frame tide) 12 rest
unfolding first_twelve headed
splice-head s site frame tide rest e =
    let three : List ℕ = frame ∷ tide ∷ 0 ∷ [] in
    splice-append s 0 (site ++ three) rest
    ∙ ap₂ (λ (t : List ℕ) (k : ℕ). splice t k rest)
    (splice-append s 0 site three ∙ ap (λ (k : ℕ). splice (splice s 0 site) (0 + k) three) e)
    (ap (λ (k : ℕ). 0 + k) (length-append site three) ∙ ap (λ (k : ℕ). 0 + (k + 3)) e)

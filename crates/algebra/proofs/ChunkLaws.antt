-- A list cut in parts of one length: how many there are, and what the i-th is.
use mathlib.Core.Path.{◌≡◌, refl, ap, ◌∙◌}
use mathlib.Core.List.{List, []}
use Prim.Native.Nat.{ℕ, zero, suc, ◌+◌, ◌*◌, ◌<◌}
use native.Mathlib.Omega.{arith}
use lib.ListN.{length, get_or, take, drop}
use Rattle.std.specs.Simd.{first_chunks}
use Rattle.std.proofs.lemmas.List.{drop-drop}

pub chunk-count : {A : Type 0} (n k : ℕ) (xs : List A) → length (first_chunks n k xs) ≡ k
chunk-count n zero xs = refl
chunk-count n (suc k) xs = ap suc (chunk-count n k (drop n xs))

pub chunk-at : {A : Type 0} (n k i : ℕ) (xs : List A) → i < k → get_or (first_chunks n k xs) i [] ≡ take n (drop (n * i) xs)
chunk-at n zero i xs h = absurd (omega (arith, h))
chunk-at n (suc k) zero xs h = ap (λ (m : ℕ). take n (drop m xs)) (zero-times n)
  where
    zero-times : (m : ℕ) → 0 ≡ m * 0
    zero-times m = omega arith
chunk-at n (suc k) (suc i) xs h =
    chunk-at n k i (drop n xs) (omega (arith, h)) ∙ ap (take n) (drop-drop (n * i) n xs) ∙ ap (λ (m : ℕ). take n (drop m xs)) (next n i)
  where
    next : (m j : ℕ) → n + n * i ≡ n * suc i
    next m j = omega arith

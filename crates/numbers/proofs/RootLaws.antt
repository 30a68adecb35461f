-- The laws of the root: r² ≤ n < (r + 1)², and no other number has that. Callers use these and nothing else.
use mathlib.Core.Path.{◌≡◌}
use mathlib.Core.Bool.{Bool, true, false, not, cond}
use Prim.Native.Nat.{ℕ, zero, suc, ◌+◌, ◌*◌, ◌/◌, ◌≤◌, ◌<◌}
use native.Mathlib.Nat.{le_refl, le_antisymm, mul-le-mul, lt_of_not-le, le_of_suc-le-suc}
use native.Mathlib.Omega.{arith}
use lib.Dec.{T, leb, leb→le, nleb→lt}
use Rattle.numbers.specs.Root.{IsRoot, refine, root_in, root}

refined : (n r : ℕ) → IsRoot (n / 4) r → IsRoot n (refine n r)
unfolding refine
refined n r h = go (leb ((2 * r + 1) * (2 * r + 1)) n) (leb→le ((2 * r + 1) * (2 * r + 1)) n) (nleb→lt ((2 * r + 1) * (2 * r + 1)) n)
  where
    go : (t : Bool) → (T t → (2 * r + 1) * (2 * r + 1) ≤ n) → (T (not t) → n < (2 * r + 1) * (2 * r + 1)) → IsRoot n (cond t (2 * r + 1) (2 * r))
    go true p q =
        let y = p tt in
        record { below = omega arith; above = omega arith }
    go false p q =
        let x = q tt in
        record { below = omega arith; above = omega arith }

-- enough steps
root_in_lem : (k n : ℕ) → n ≤ k → IsRoot n (root_in k n)
unfolding root_in
root_in_lem zero zero h = record { below = omega arith; above = omega arith }
root_in_lem zero (suc n) h = absurd (omega arith)
root_in_lem (suc k) zero h = record { below = omega arith; above = omega arith }
root_in_lem (suc k) (suc n) h = refined (suc n) (root_in k (suc n / 4)) (root_in_lem k (suc n / 4) (omega arith))

pub root_is : (n : ℕ) → IsRoot n (root n)
unfolding root
root_is n = root_in_lem n n (le_refl n)

at_most : (n r s : ℕ) → IsRoot n r → IsRoot n s → r ≤ s
at_most n r s h k =
    le_of_suc-le-suc (lt_of_not-le (λ (l : suc s ≤ r). absurd (omega (arith, mul-le-mul l l, h.below, k.above))))

pub root-unique : (n r s : ℕ) → IsRoot n r → IsRoot n s → r ≡ s
root-unique n r s h k = le_antisymm (at_most n r s h k) (at_most n s r k h)

pub root-same : (n r : ℕ) → IsRoot n r → r ≡ root n
root-same n r h = root-unique n r (root n) h (root_is n)

-- ---- a range of the root is a range of the number

pub root-least : (n k : ℕ) → k * k ≤ n → k ≤ root n
root-least n k h = le_of_suc-le-suc (lt_of_not-le (λ (l : suc (root n) ≤ k). absurd (omega (arith, mul-le-mul l l, (root_is n).above))))

pub root_below : (n k : ℕ) → n < k * k → root n < k
root_below n k h = lt_of_not-le (λ (l : k ≤ root n). absurd (omega (arith, mul-le-mul l l, (root_is n).below)))

-- The real distance lies from the whole one up to one more, and fractions from the whole one come as near to it as is wanted.
use mathlib.Core.Path.{ap}
use Prim.Native.Nat.{ℕ, zero, suc, ◌+◌, ◌*◌, ◌≤◌, ◌<◌}
use native.Mathlib.Nat.{lt_of_not-le, lt_of_mul-lt-mul_left, le_of_suc-le-suc, mul-le-mul, mul-le-mul_left, mul-le-mul_right, mul-pos}
use native.Mathlib.Omega.{arith}
use lib.IntN.{pos, nat_abs, ◌-ℤ◌, ◌*ℤ◌}
use Rattle.algebra.specs.Fraction.{Positive}
use Rattle.algebra.proofs.Difference.{ℤ⊖}
use Rattle.algebra.proofs.IntLaws.{abs-*}
use Rattle.numbers.specs.Root.{IsRoot, root}
use Rattle.numbers.proofs.RootLaws.{root_is, root-least, root_below}
use Rattle.mark.specs.declared.Vec3.{Vec3}
use Rattle.mark.specs.Mark.{squares, length_of}
use Rattle.laws.specs.RealDistances.{From, Real, Nearly, Apart}
use Rattle.laws.proofs.SteadyLaws.{number}

-- ---- by squares

root-at-most : {a b : ℕ} → a * a ≤ b * b → a ≤ b
root-at-most {a} {b} h = le_of_suc-le-suc (lt_of_not-le (λ (l : suc b ≤ a). absurd (omega (arith, mul-le-mul l l))))

root-less : {a b : ℕ} → a * a < b * b → a < b
root-less {a} {b} h = lt_of_not-le (λ (l : b ≤ a). absurd (omega (arith, mul-le-mul l l)))

-- the whole distance is the whole root
whole-root : (v : Vec3) → IsRoot (squares v) (length_of v)
unfolding length_of
whole-root v = root_is (squares v)

-- ---- a real distance that is a fraction

pub real-from : (v : Vec3) (D : Positive) → Real v D → From (length_of v) D
real-from v D real =
    let b = D.bottom * D.bottom in
    record {
      least = root-at-most (omega (arith, real.square, mul-le-mul_right b (whole-root v).below));
      less = root-less (omega (arith, real.square, mul-le-mul_right b (whole-root v).above, mul-pos D.bottom_pos D.bottom_pos));
    }

-- it is as near to itself as is wanted
pub real-nearly : (v : Vec3) (D : Positive) (k : ℕ) → Real v D → Nearly k v D
real-nearly v D k real =
    record {
      from = real-from v D real;
      under = omega (arith, real.square);
      over = omega (arith, ap (λ (n : ℕ). k * k * n) real.square, mul-pos D.bottom_pos D.bottom_pos);
    }

-- ---- the root of k² n over k is less than 1/k below that of n

module _ (v : Vec3) (k : ℕ) (p : 0 < k) (q : 0 < length_of v) where
  abbrev r : ℕ
  r = root (squares v * (k * k))

  r-is : IsRoot (squares v * (k * k)) r
  r-is = root_is (squares v * (k * k))

  r-least : length_of v * k ≤ r
  r-least = root-least (squares v * (k * k)) (length_of v * k) (omega (arith, mul-le-mul_right (k * k) (whole-root v).below))

  r-less : r < (length_of v + 1) * k
  r-less =
      root_below (squares v * (k * k)) ((length_of v + 1) * k)
      (omega (arith, mul-le-mul_right (k * k) (whole-root v).above, mul-pos p p))

  abbrev kths : Positive
  kths = record { top = r; bottom = k; top_pos = omega (arith, mul-pos q p, r-least); bottom_pos = p }

  pub nearly : (D : Positive) × Nearly k v D
  nearly = (
    kths,
    record {
      from = record { least = r-least; less = r-less };
      under = r-is.below;
      over = omega (arith, mul-le-mul_right (k * k) r-is.above, mul-pos p p);
    },
  )

-- ---- those that are nearer are among them

nearer-by :
    (n j k t b : ℕ) → k ≤ j → 0 < k → n * (j * b * (j * b)) < (j * t + b) * (j * t + b) → n * (k * b * (k * b)) < (k * t + b) * (k * t + b)
nearer-by n j k t b h p l =
    let s : k * (j * t + b) ≤ j * (k * t + b) = omega (arith, mul-le-mul_right b h) in
    lt_of_mul-lt-mul_left (j * j) (omega (arith, mul-le-mul s s, mul-le-mul_left (k * k) l, mul-pos p p))

-- 0 asks for nothing
over_zero : (n t b : ℕ) → 0 < b → n * (0 * b * (0 * b)) < (0 * t + b) * (0 * t + b)
over_zero n t b p = omega (arith, mul-pos p p)

pub nearly-nearer : (v : Vec3) (D : Positive) (j k : ℕ) → k ≤ j → Nearly j v D → Nearly k v D
nearly-nearer v D j zero h near =
    record { from = near.from; under = near.under; over = over_zero (squares v) D.top D.bottom D.bottom_pos }
nearly-nearer v D j (suc k) h near =
    record { from = near.from; under = near.under; over = nearer-by (squares v) j (suc k) D.top D.bottom h (omega arith) near.over }

-- ---- two of them

-- D is less than 1/k above D', where D is not above the real distance and D' less than 1/k below it
above-by :
    (n k t b t' b' : ℕ)
    → t * t ≤ n * (b * b)
    → n * (k * b' * (k * b')) < (k * t' + b') * (k * t' + b')
    → k * b' * t ≤ (k * t' + b') * b
above-by n k t b t' b' h l = root-at-most (omega (arith, mul-le-mul_left (k * b' * (k * b')) h, mul-le-mul_right (b * b) l))

pub nearly-apart : (v : Vec3) (k : ℕ) (D D' : Positive) → Nearly k v D → Nearly k v D' → Apart k 1 (number D) (number D')
nearly-apart v k D D' h h' =
    let a = above-by (squares v) k D.top D.bottom D'.top D'.bottom h.under h'.over in
    let b = above-by (squares v) k D'.top D'.bottom D.top D.bottom h'.under h.over in
    record { off = near_by k D.top D.bottom D'.top D'.bottom a b }
  where
    near_by : (k t b t' b' : ℕ) → k * b' * t ≤ (k * t' + b') * b → k * b * t' ≤ (k * t + b) * b' → k * nat_abs (pos t *ℤ pos b' -ℤ pos t' *ℤ pos b) ≤ 1 * (b * b')
    near_by k t b t' b' h l =
        let e : nat_abs (pos k *ℤ (pos t *ℤ pos b' -ℤ pos t' *ℤ pos b)) ≤ 1 * (b * b') = simp ℤ⊖ (omega arith) in
        omega (arith, abs-* (pos k) (pos t *ℤ pos b' -ℤ pos t' *ℤ pos b))

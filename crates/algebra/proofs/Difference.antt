-- Whole numbers as differences of two naturals, so that `omega`, which reads naturals only, closes linear goals over ℤ.
--
-- `a ⊖ b` is a - b. `split z` writes z as such a difference; the set `ℤ⊖` carries ⊖ through sums, products, negation and
-- constants, and turns ≡, ≤ℤ and <ℤ of two differences into statements about naturals. A goal with its hypotheses as
-- arrows is then one line: see the examples at the end. Known naturals are written `pos n`.
use mathlib.Core.Path.{◌≡◌, sym, ap, subst}
use mathlib.Core.Logic.{◌↔◌}
use mathlib.Core.Bool.{Bool, true, false, not, cond}
use Prim.Native.Nat.{ℕ, zero, suc, ◌+◌, ◌-◌, ◌*◌, ◌≤◌, ◌<◌}
use native.Mathlib.Omega.{arith}
use lib.Dec.{T, ltb, leb→le, le→leb, ltb→lt, lt→ltb, nltb→le}
use lib.IntN.{ℤ, pos, negsuc, neg_ℤ, nat_abs, sub_ℕ, ◌+ℤ◌, ◌*ℤ◌}
use lib.Signed.{◌≤ℤ◌, ◌<ℤ◌, le_z, lt_z}

infix 65 ◌⊖◌
-- a - b, for two naturals
pub ◌⊖◌ : ℕ → ℕ → ℤ
a ⊖ b = sub_ℕ a b

-- z as the difference of two naturals, one of them 0
pub plus : ℤ → ℕ
plus (pos n) = n
plus (negsuc n) = 0

pub minus : ℤ → ℕ
minus (pos n) = 0
minus (negsuc n) = suc n

-- z is p - n
abbrev Is : ℤ → ℕ → ℕ → Type 0
Is (pos k) p n = p ≡ n + k
Is (negsuc k) p n = n ≡ p + suc k

is-sub : (a b : ℕ) → Is (sub_ℕ a b) a b
is-sub a b = go (ltb a b) (ltb→lt a b) (nltb→le a b)
  where
    go : (t : Bool) → (T t → a < b) → (T (not t) → b ≤ a) → Is (cond t (negsuc (b - suc a)) (pos (a - b))) a b
    go true h k = let l : a < b = h tt in omega arith
    go false h k = let l : b ≤ a = k tt in omega arith

is : (a b : ℕ) → Is (a ⊖ b) a b
unfolding ◌⊖◌
is a b = is-sub a b

-- the same number as another difference
moved : (z : ℤ) (p n p' n' : ℕ) → Is z p n → p + n' ≡ p' + n → Is z p' n'
moved (pos k) p n p' n' h e = omega arith
moved (negsuc k) p n p' n' h e = omega arith

-- the difference says which number it is
only : (x y : ℤ) (p n : ℕ) → Is x p n → Is y p n → x ≡ y
only (pos a) (pos b) p n h k = ap pos (omega arith)
only (pos a) (negsuc b) p n h k = absurd (omega arith)
only (negsuc a) (pos b) p n h k = absurd (omega arith)
only (negsuc a) (negsuc b) p n h k = ap negsuc (omega arith)

is-neg : (x : ℤ) (p n : ℕ) → Is x p n → Is (neg_ℤ x) n p
is-neg (pos zero) p n h = omega arith
is-neg (pos (suc k)) p n h = omega arith
is-neg (negsuc k) p n h = omega arith

is-add : (x y : ℤ) (p n q m : ℕ) → Is x p n → Is y q m → Is (x +ℤ y) (p + q) (n + m)
is-add (pos a) (pos b) p n q m h k = omega arith
is-add (pos a) (negsuc b) p n q m h k = moved (sub_ℕ a (suc b)) a (suc b) (p + q) (n + m) (is-sub a (suc b)) (omega arith)
is-add (negsuc a) (pos b) p n q m h k = moved (sub_ℕ b (suc a)) b (suc a) (p + q) (n + m) (is-sub b (suc a)) (omega arith)
is-add (negsuc a) (negsuc b) p n q m h k = omega arith

-- (n + a)(m + b) and its three companions, over naturals
products : (n a m b : ℕ) → (n + a) * (m + b) + n * m ≡ (n + a) * m + n * (m + b) + a * b
products n a m b = omega arith

is_mul : (x y : ℤ) (p n q m : ℕ) → Is x p n → Is y q m → Is (x *ℤ y) (p * q + n * m) (p * m + n * q)
is_mul (pos a) (pos b) p n q m h k = rw (h, k) (products n a m b)
is_mul (pos a) (negsuc b) p n q m h k =
    is-neg (pos (a * suc b)) (p * m + n * q) (p * q + n * m) (rw (h, k) (products n a q (suc b)))
is_mul (negsuc a) (pos b) p n q m h k =
    is-neg (pos (suc a * b)) (p * m + n * q) (p * q + n * m) (rw (h, k) (omega (arith, products p (suc a) m b)))
is_mul (negsuc a) (negsuc b) p n q m h k = rw (h, k) (omega (arith, products p (suc a) q (suc b)))

-- ---- what the set ℤ⊖ holds

pub split : (z : ℤ) → z ≡ plus z ⊖ minus z
unfolding plus minus
split (pos n) = only (pos n) (n ⊖ 0) n 0 (omega arith) (is n 0)
split (negsuc n) = only (negsuc n) (0 ⊖ suc n) 0 (suc n) (omega arith) (is 0 (suc n))

pub pos-⊖ : (n : ℕ) → pos n ≡ n ⊖ 0
pos-⊖ n = only (pos n) (n ⊖ 0) n 0 (omega arith) (is n 0)

pub negsuc-⊖ : (n : ℕ) → negsuc n ≡ 0 ⊖ suc n
negsuc-⊖ n = only (negsuc n) (0 ⊖ suc n) 0 (suc n) (omega arith) (is 0 (suc n))

-- a negation that waits for n shows no `pos n` to rewrite
pub neg-pos-⊖ : (n : ℕ) → neg_ℤ (pos n) ≡ 0 ⊖ n
neg-pos-⊖ n = only (neg_ℤ (pos n)) (0 ⊖ n) 0 n (is-neg (pos n) n 0 (omega arith)) (is 0 n)

pub neg-⊖ : (a b : ℕ) → neg_ℤ (a ⊖ b) ≡ b ⊖ a
neg-⊖ a b = only (neg_ℤ (a ⊖ b)) (b ⊖ a) b a (is-neg (a ⊖ b) a b (is a b)) (is b a)

pub add-⊖ : (a b c d : ℕ) → a ⊖ b +ℤ (c ⊖ d) ≡ (a + c) ⊖ (b + d)
add-⊖ a b c d =
    only (a ⊖ b +ℤ (c ⊖ d)) ((a + c) ⊖ (b + d)) (a + c) (b + d)
    (is-add (a ⊖ b) (c ⊖ d) a b c d (is a b) (is c d))
    (is (a + c) (b + d))

pub mul-⊖ : (a b c d : ℕ) → (a ⊖ b) *ℤ (c ⊖ d) ≡ (a * c + b * d) ⊖ (a * d + b * c)
mul-⊖ a b c d =
    only ((a ⊖ b) *ℤ (c ⊖ d)) ((a * c + b * d) ⊖ (a * d + b * c)) (a * c + b * d) (a * d + b * c)
    (is_mul (a ⊖ b) (c ⊖ d) a b c d (is a b) (is c d))
    (is (a * c + b * d) (a * d + b * c))

abs_is : (z : ℤ) (p n : ℕ) → Is z p n → nat_abs z ≡ p - n + (n - p)
abs_is (pos k) p n h = omega arith
abs_is (negsuc k) p n h = omega arith

pub abs-⊖ : (a b : ℕ) → nat_abs (a ⊖ b) ≡ a - b + (b - a)
abs-⊖ a b = abs_is (a ⊖ b) a b (is a b)

eq_is : (x y : ℤ) (p n q m : ℕ) → Is x p n → Is y q m → x ≡ y → p + m ≡ q + n
eq_is x y p n q m h k e = go x (subst (λ (z : ℤ). Is z q m) (sym e) k) h
  where
    go : (z : ℤ) → Is z q m → Is z p n → p + m ≡ q + n
    go (pos a) u v = omega arith
    go (negsuc a) u v = omega arith

pub eq-⊖ : (a b c d : ℕ) → (a ⊖ b ≡ c ⊖ d) ↔ (a + d ≡ c + b)
eq-⊖ a b c d = (
  eq_is (a ⊖ b) (c ⊖ d) a b c d (is a b) (is c d),
  λ e. only (a ⊖ b) (c ⊖ d) c d (moved (a ⊖ b) a b c d (is a b) e) (is c d),
)

le_is : (x y : ℤ) (p n q m : ℕ) → Is x p n → Is y q m → x ≤ℤ y → p + m ≤ q + n
le_is (pos a) (pos b) p n q m h k l = let u : a ≤ b = leb→le a b l.le in omega arith
le_is (pos a) (negsuc b) p n q m h k l = absurd l.le
le_is (negsuc a) (pos b) p n q m h k l = omega arith
le_is (negsuc a) (negsuc b) p n q m h k l = let u : b ≤ a = leb→le b a l.le in omega arith

le_of : (x y : ℤ) (p n q m : ℕ) → Is x p n → Is y q m → p + m ≤ q + n → T (le_z x y)
le_of (pos a) (pos b) p n q m h k l = le→leb a b (omega arith)
le_of (pos a) (negsuc b) p n q m h k l = absurd (omega arith)
le_of (negsuc a) (pos b) p n q m h k l = tt
le_of (negsuc a) (negsuc b) p n q m h k l = le→leb b a (omega arith)

pub le-⊖ : (a b c d : ℕ) → ((a ⊖ b) ≤ℤ (c ⊖ d)) ↔ (a + d ≤ c + b)
le-⊖ a b c d = (
  le_is (a ⊖ b) (c ⊖ d) a b c d (is a b) (is c d),
  λ l. record { le = le_of (a ⊖ b) (c ⊖ d) a b c d (is a b) (is c d) l },
)

lt-is : (x y : ℤ) (p n q m : ℕ) → Is x p n → Is y q m → x <ℤ y → p + m < q + n
lt-is (pos a) (pos b) p n q m h k l = let u : a < b = ltb→lt a b l.lt in omega arith
lt-is (pos a) (negsuc b) p n q m h k l = absurd l.lt
lt-is (negsuc a) (pos b) p n q m h k l = omega arith
lt-is (negsuc a) (negsuc b) p n q m h k l = let u : b < a = ltb→lt b a l.lt in omega arith

lt_of : (x y : ℤ) (p n q m : ℕ) → Is x p n → Is y q m → p + m < q + n → T (lt_z x y)
lt_of (pos a) (pos b) p n q m h k l = lt→ltb a b (omega arith)
lt_of (pos a) (negsuc b) p n q m h k l = absurd (omega arith)
lt_of (negsuc a) (pos b) p n q m h k l = tt
lt_of (negsuc a) (negsuc b) p n q m h k l = lt→ltb b a (omega arith)

pub lt-⊖ : (a b c d : ℕ) → ((a ⊖ b) <ℤ (c ⊖ d)) ↔ (a + d < c + b)
lt-⊖ a b c d = (
  lt-is (a ⊖ b) (c ⊖ d) a b c d (is a b) (is c d),
  λ l. record { lt = lt_of (a ⊖ b) (c ⊖ d) a b c d (is a b) (is c d) l },
)

pub ruleset ℤ⊖ = (pos-⊖, negsuc-⊖, neg-pos-⊖, neg-⊖, add-⊖, mul-⊖, abs-⊖, eq-⊖, le-⊖, lt-⊖)

-- An error calculus for chains of rounded whole-number steps, carried by closed numerals.
--
-- `Val s x X e b`: the whole number x stands for s X, off by at most e/1000, and |x| ≤ b. Each combinator is a step of a
-- chain and says what becomes of e and b; at numerals both compute, so a step is closed by conversion, or by `weak_v` with
-- `lit≤ tt` twice. State each rounded step as a lemma of its own: `near_v` finds the scale s from the statement. (Inside
-- another step write `near_v {s = E}`.) E must be a numeral or an `abbrev` of one.
--
-- Of a rounding nothing is used but `Half`, so every chain survives a change of the rule for exact halves.
use mathlib.Core.Path.{◌≡◌, ap, subst}
use Prim.Native.Nat.{ℕ, suc, ◌+◌, ◌*◌, ◌/◌, ◌≤◌, ◌<◌}
use native.Mathlib.Nat.{le_trans, le-div_iff_mul-le, le_of_mul-le-mul_left, le_of_mul-le-mul_right, lt-mul-div-succ, lt_of_mul-lt-mul_left, mul-le-mul, mul-le-mul_left, mul-le-mul_right}
use native.Mathlib.Omega.{arith}
use lib.IntN.{ℤ, pos, nat_abs, ◌+ℤ◌, ◌-ℤ◌, ◌*ℤ◌}
use Rattle.algebra.specs.Fraction.{Fraction, Positive, ◌≈◌, divisor, whole, ratio, wholly, ◌+ᶠ◌, ◌-ᶠ◌, ◌*ᶠ◌, ◌·ᶠ◌, ◌/ᶠ◌, ◌÷ᶠ◌}
use Rattle.algebra.specs.Rounding.{Half}
use Rattle.algebra.proofs.IntLaws.{abs-+, abs--, abs-*}
use Rattle.algebra.proofs.ErrorNeeds as Needs

-- how far x is from s X, times X's denominator
unfoldable pub miss : ℕ → ℤ → Fraction → ℤ
miss s x X = x *ℤ pos X.den -ℤ pos s *ℤ X.num

-- x stands for s X, off by at most e/1000, and |x| ≤ b
pub record Val (s : ℕ) (x : ℤ) (X : Fraction) (e b : ℕ) : Type 0 where
  pub off : 1000 * nat_abs (miss s x X) ≤ e * X.den
  pub size : nat_abs x ≤ b

none : (z : ℤ) (B : ℕ) → z ≡ pos 0 → 1000 * nat_abs z ≤ B
none z B p = rw p (omega arith)

-- ---- starts of a chain

-- s c stands for c at scale s
pub const_v : (s : ℕ) (c : ℤ) → Val s (pos s *ℤ c) (whole c) 0 (s * nat_abs c)
unfolding whole miss
const_v s c =
    record {
      off = none (pos s *ℤ c *ℤ pos 1 -ℤ pos s *ℤ c) _ (Needs.const-off c s);
      size = omega (arith, abs-* (pos s) c);
    }

-- a stands for a/n at scale n
pub ratio_v : (a : ℤ) (n : ℕ) → 0 < n → Val n a (ratio a n) 0 (nat_abs a)
unfolding ratio miss
ratio_v a n p =
    record { off = none (a *ℤ pos (divisor n) -ℤ pos n *ℤ a) _ (Needs.ratio-off a (divisor n) n (omega arith)); size = omega arith }

-- ---- sums and multiples

miss-plus :
    (s : ℕ) (x y : ℤ) (X Y : Fraction)
    → miss s (x +ℤ y) (X +ᶠ Y) ≡ miss s x X *ℤ pos Y.den +ℤ miss s y Y *ℤ pos X.den
unfolding miss ◌+ᶠ◌
miss-plus s x y X Y = Needs.sum-off x y X.num Y.num X.den Y.den s

plus-bound :
    (u v : ℤ) (D C e f : ℕ)
    → 1000 * nat_abs u ≤ e * D
    → 1000 * nat_abs v ≤ f * C
    → 1000 * nat_abs (u *ℤ pos C +ℤ v *ℤ pos D) ≤ (e + f) * (D * C)
plus-bound u v D C e f h k =
    omega (
      arith,
      abs-+ (u *ℤ pos C) (v *ℤ pos D),
      abs-* u (pos C),
      abs-* v (pos D),
      mul-le-mul_right C h,
      mul-le-mul_right D k,
    )

pub plus_v :
    {s : ℕ} {x y : ℤ} {X Y : Fraction} {e f a b : ℕ}
    → Val s x X e a → Val s y Y f b → Val s (x +ℤ y) (X +ᶠ Y) (e + f) (a + b)
unfolding ◌+ᶠ◌
plus_v {s} {x} {y} {X} {Y} {e} {f} v w =
    record {
      off = rw (miss-plus s x y X Y) (plus-bound (miss s x X) (miss s y Y) X.den Y.den e f v.off w.off);
      size = omega (arith, abs-+ x y, v.size, w.size);
    }

miss-minus :
    (s : ℕ) (x y : ℤ) (X Y : Fraction)
    → miss s (x -ℤ y) (X -ᶠ Y) ≡ miss s x X *ℤ pos Y.den -ℤ miss s y Y *ℤ pos X.den
unfolding miss ◌-ᶠ◌
miss-minus s x y X Y = Needs.difference-off x y X.num Y.num X.den Y.den s

minus-bound :
    (u v : ℤ) (D C e f : ℕ)
    → 1000 * nat_abs u ≤ e * D
    → 1000 * nat_abs v ≤ f * C
    → 1000 * nat_abs (u *ℤ pos C -ℤ v *ℤ pos D) ≤ (e + f) * (D * C)
minus-bound u v D C e f h k =
    omega (
      arith,
      abs-- (u *ℤ pos C) (v *ℤ pos D),
      abs-* u (pos C),
      abs-* v (pos D),
      mul-le-mul_right C h,
      mul-le-mul_right D k,
    )

pub minus_v :
    {s : ℕ} {x y : ℤ} {X Y : Fraction} {e f a b : ℕ}
    → Val s x X e a → Val s y Y f b → Val s (x -ℤ y) (X -ᶠ Y) (e + f) (a + b)
unfolding ◌-ᶠ◌
minus_v {s} {x} {y} {X} {Y} {e} {f} v w =
    record {
      off = rw (miss-minus s x y X Y) (minus-bound (miss s x X) (miss s y Y) X.den Y.den e f v.off w.off);
      size = omega (arith, abs-- x y, v.size, w.size);
    }

miss-times : (s : ℕ) (c x : ℤ) (X : Fraction) → miss s (c *ℤ x) (c ·ᶠ X) ≡ c *ℤ miss s x X
unfolding miss ◌·ᶠ◌
miss-times s c x X = Needs.times-off c x X.num X.den s

times-bound : (c u : ℤ) (D e : ℕ) → 1000 * nat_abs u ≤ e * D → 1000 * nat_abs (c *ℤ u) ≤ nat_abs c * e * D
times-bound c u D e h = omega (arith, abs-* c u, mul-le-mul_left (nat_abs c) h)

-- c times, for a whole number c
pub times_v :
    {s : ℕ} {x : ℤ} {X : Fraction} {e b : ℕ} (c : ℤ)
    → Val s x X e b → Val s (c *ℤ x) (c ·ᶠ X) (nat_abs c * e) (nat_abs c * b)
unfolding ◌·ᶠ◌
times_v {s} {x} {X} {e} c v =
    record {
      off = rw (miss-times s c x X) (times-bound c (miss s x X) X.den e v.off);
      size = omega (arith, abs-* c x, mul-le-mul_left (nat_abs c) v.size);
    }

-- ---- products and quotients

miss-mul :
    (s t : ℕ) (x y : ℤ) (X Y : Fraction)
    → miss (s * t) (x *ℤ y) (X *ᶠ Y)
    ≡ miss s x X *ℤ (y *ℤ pos Y.den) +ℤ x *ℤ pos X.den *ℤ miss t y Y -ℤ miss s x X *ℤ miss t y Y
unfolding miss ◌*ᶠ◌
miss-mul s t x y X Y = Needs.product-off x y X.num Y.num X.den Y.den s t

mul-bound :
    (u v x y : ℤ) (D C e f a b q : ℕ)
    → 1000 * nat_abs u ≤ e * D
    → 1000 * nat_abs v ≤ f * C
    → nat_abs x ≤ a
    → nat_abs y ≤ b
    → e * f ≤ 1000 * q
    → 1000 * nat_abs (u *ℤ (y *ℤ pos C) +ℤ x *ℤ pos D *ℤ v -ℤ u *ℤ v) ≤ (e * b + a * f + q) * (D * C)
mul-bound u v x y D C e f a b q h k ha hb hq =
    let l : nat_abs (u *ℤ (y *ℤ pos C)) ≡ nat_abs u * (nat_abs y * C) = rw (abs-* u (y *ℤ pos C), abs-* y (pos C)) in
    let r : nat_abs (x *ℤ pos D *ℤ v) ≡ nat_abs x * D * nat_abs v = rw (abs-* (x *ℤ pos D) v, abs-* x (pos D)) in
    let l' : 1000 * nat_abs u * (nat_abs y * C) ≤ e * D * (b * C) = mul-le-mul h (mul-le-mul_right C hb) in
    let r' : nat_abs x * D * (1000 * nat_abs v) ≤ a * D * (f * C) = mul-le-mul (mul-le-mul_right D ha) k in
    let c : 1000 * nat_abs u * (1000 * nat_abs v) ≤ e * D * (f * C) = mul-le-mul h k in
    let c' : e * f * (D * C) ≤ 1000 * q * (D * C) = mul-le-mul_right (D * C) hq in
    omega (
      arith,
      abs-- (u *ℤ (y *ℤ pos C) +ℤ x *ℤ pos D *ℤ v) (u *ℤ v),
      abs-+ (u *ℤ (y *ℤ pos C)) (x *ℤ pos D *ℤ v),
      abs-* u v,
    )

pub mul_v :
    {s t : ℕ} {x y : ℤ} {X Y : Fraction} {e f a b : ℕ}
    → Val s x X e a → Val t y Y f b → Val (s * t) (x *ℤ y) (X *ᶠ Y) (e * b + a * f + (e * f / 1000 + 1)) (a * b)
unfolding ◌*ᶠ◌
mul_v {s} {t} {x} {y} {X} {Y} {e} {f} {a} {b} v w =
    record {
      off =
          rw (miss-mul s t x y X Y)
          (mul-bound (miss s x X) (miss t y Y) x y X.den Y.den e f a b (e * f / 1000 + 1) v.off w.off
          v.size w.size (omega arith));
      size = omega (arith, abs-* x y, mul-le-mul v.size w.size);
    }

miss-near :
    (s k : ℕ) (x y : ℤ) (X : Fraction)
    → pos k *ℤ miss s y X ≡ (pos k *ℤ y -ℤ x) *ℤ pos X.den +ℤ miss (s * k) x X
unfolding miss
miss-near s k x y X = Needs.near-off x y X.num X.den s k

near-bound :
    (z w v : ℤ) (D k e : ℕ)
    → 0 < k
    → pos k *ℤ z ≡ w *ℤ pos D +ℤ v
    → 2 * nat_abs w ≤ k
    → 1000 * nat_abs v ≤ e * D
    → 1000 * nat_abs z ≤ (e / k + 501) * D
near-bound z w v D k e p i h l =
    le_of_mul-le-mul_left {k = k}
    (omega (
      arith,
      abs-* (pos k) z,
      ap nat_abs i,
      abs-+ (w *ℤ pos D) v,
      abs-* w (pos D),
      mul-le-mul_right D h,
      mul-le-mul_right D (lt-mul-div-succ e p),
    ))
    p

-- |y|, from k |y| ≤ |x| + k/2
pub half-size : {x y : ℤ} {k b : ℕ} → Half x k y → nat_abs x ≤ b → 2 * (k * nat_abs y) ≤ 2 * b + k
half-size {x} {y} {k} h l =
    omega (arith, h.off, abs-* (pos k) y, ap nat_abs (Needs.near-back x y k), abs-+ (pos k *ℤ y -ℤ x) x)

-- the sharpest bound of |y|, for `bound_v`
pub near-size : {x y : ℤ} {k b : ℕ} → Half x k y → 0 < k → nat_abs x ≤ b → nat_abs y ≤ (2 * b + k) / (2 * k)
near-size {k = k} h p l = (le-div_iff_mul-le {k = 2 * k} (omega arith)).1 (omega (arith, half-size h l))

near-size' : {x y : ℤ} {k b : ℕ} → Half x k y → 0 < k → nat_abs x ≤ b → nat_abs y ≤ b / k + 1
near-size' {y = y} {k} {b} h p l =
    let o : k * (2 * nat_abs y) < k * (2 * (b / k) + 3) = omega (arith, half-size h l, lt-mul-div-succ b p) in
    omega (arith, lt_of_mul-lt-mul_left k o)

-- x divided by k and rounded
pub near_v :
    {s k : ℕ} {x y : ℤ} {X : Fraction} {e b : ℕ}
    → Half x k y → 0 < k → Val (s * k) x X e b → Val s y X (e / k + 501) (b / k + 1)
near_v {s} {k} {x} {y} {X} {e} h p v =
    record {
      off =
          near-bound (miss s y X) (pos k *ℤ y -ℤ x) (miss (s * k) x X) X.den k e p (miss-near s k x y X) h.off
          v.off;
      size = near-size' h p v.size;
    }

miss-over :
    (s n : ℕ) (x : ℤ) (X : Fraction) → 0 < n → miss (s * n) x (X /ᶠ n) ≡ miss s x X *ℤ pos n
unfolding miss ◌/ᶠ◌
miss-over s n x X p = Needs.over-off x X.num X.den s (divisor n) n (omega arith)

over-bound : (u : ℤ) (D n d e : ℕ) → d ≡ n → 1000 * nat_abs u ≤ e * D → 1000 * nat_abs (u *ℤ pos n) ≤ e * (D * d)
over-bound u D n d e p h = rw p (omega (arith, abs-* u (pos n), mul-le-mul_right n h))

-- what stands for X at scale s stands for X/n at scale s n
pub over_v :
    {s : ℕ} {x : ℤ} {X : Fraction} {e b : ℕ} (n : ℕ) → 0 < n → Val s x X e b → Val (s * n) x (X /ᶠ n) e b
unfolding ◌/ᶠ◌
over_v {s} {x} {X} {e} n p v =
    record {
      off = rw (miss-over s n x X p) (over-bound (miss s x X) X.den n (divisor n) e (omega arith) v.off);
      size = v.size;
    }

-- ---- the same number, said otherwise

-- larger bounds
pub weak_v :
    {s : ℕ} {x : ℤ} {X : Fraction} {e e' b b' : ℕ} → Val s x X e b → e ≤ e' → b ≤ b' → Val s x X e' b'
weak_v {X = X} v h k =
    record { off = le_trans v.off (mul-le-mul_right X.den h); size = le_trans v.size k }

-- a larger bound of |x|
pub wide_v : {s : ℕ} {x : ℤ} {X : Fraction} {e b b' : ℕ} → Val s x X e b → b ≤ b' → Val s x X e b'
wide_v v h = record { off = v.off; size = le_trans v.size h }

-- a bound of |x| known from elsewhere
pub bound_v : {s : ℕ} {x : ℤ} {X : Fraction} {e b b' : ℕ} → Val s x X e b → nat_abs x ≤ b' → Val s x X e b'
bound_v v h = record { off = v.off; size = h }

-- x under another name
pub is_v : {s : ℕ} {x y : ℤ} {X : Fraction} {e b : ℕ} → x ≡ y → Val s x X e b → Val s y X e b
is_v {s} {X = X} {e} {b} p v = subst (λ (z : ℤ). Val s z X e b) p v

miss-same : (s : ℕ) (x : ℤ) (X Y : Fraction) → X ≈ Y → miss s x Y *ℤ pos X.den ≡ miss s x X *ℤ pos Y.den
unfolding miss
miss-same s x X Y p = Needs.same-off x X.num Y.num X.den Y.den s p.cross

same-bound :
    (u v : ℤ) (D C e : ℕ)
    → 0 < D
    → v *ℤ pos D ≡ u *ℤ pos C
    → 1000 * nat_abs u ≤ e * D
    → 1000 * nat_abs v ≤ e * C
same-bound u v D C e p i h =
    le_of_mul-le-mul_right {k = D}
    (omega (arith, abs-* v (pos D), ap nat_abs i, abs-* u (pos C), mul-le-mul_right C h))
    p

-- X as another fraction of the same value
pub same_v : {s : ℕ} {x : ℤ} {X Y : Fraction} {e b : ℕ} → X ≈ Y → Val s x X e b → Val s x Y e b
same_v {s} {x} {X} {Y} {e} p v =
    record {
      off =
          same-bound (miss s x X) (miss s x Y) X.den Y.den e X.den_pos (miss-same s x X Y p) v.off;
      size = v.size;
    }

miss-scale : (s c : ℕ) (x : ℤ) (X : Fraction) → miss (s * c) (x *ℤ pos c) X ≡ miss s x X *ℤ pos c
unfolding miss
miss-scale s c x X = Needs.scale-off x X.num X.den s c

-- c times the number at c times the scale
pub scale_v :
    {s : ℕ} {x : ℤ} {X : Fraction} {e b : ℕ} (c : ℕ) → Val s x X e b → Val (s * c) (x *ℤ pos c) X (e * c) (b * c)
scale_v {s} {x} {X} {e} c v =
    record {
      off =
          rw (miss-scale s c x X)
          (omega (arith, abs-* (miss s x X) (pos c), mul-le-mul_right c v.off));
      size = omega (arith, abs-* x (pos c), mul-le-mul_right c v.size);
    }

-- ---- the start at a quotient by a distance

miss-quotient :
    (s L : ℕ) (m u : ℤ) (D : Positive)
    → pos L *ℤ miss s u (whole m ÷ᶠ D)
    ≡ (pos L *ℤ u -ℤ m *ℤ pos s) *ℤ pos D.top +ℤ m *ℤ pos s *ℤ (pos D.top -ℤ pos (L * D.bottom))
unfolding miss whole ◌÷ᶠ◌
miss-quotient s L m u D = Needs.quotient-off m u L D.top D.bottom s

quotient-bound :
    (z w n d : ℤ) (L t b c : ℕ)
    → 0 < L
    → pos L *ℤ z ≡ w *ℤ pos t +ℤ n *ℤ d
    → 2 * nat_abs w ≤ L
    → nat_abs n ≤ b * L
    → 1000 * (b * nat_abs d) ≤ c * t
    → 1000 * nat_abs z ≤ (500 + c) * (1 * t)
quotient-bound z w n d L t b c p i h l m =
    le_of_mul-le-mul_left {k = L}
    (omega (
      arith,
      abs-* (pos L) z,
      ap nat_abs i,
      abs-+ (w *ℤ pos t) (n *ℤ d),
      abs-* w (pos t),
      abs-* n d,
      mul-le-mul_right t h,
      mul-le-mul_right (nat_abs d) l,
      mul-le-mul_left L m,
    ))
    p

pub quotient-size : {x u : ℤ} {L b : ℕ} → 0 < L → Half x L u → nat_abs x ≤ b * L → nat_abs u ≤ b
quotient-size {u = u} {L} {b} p h l =
    let o : L * (2 * nat_abs u) < L * (2 * b + 2) = omega (arith, half-size h l) in
    omega (arith, lt_of_mul-lt-mul_left L o)

-- u is m s divided by the whole L and rounded; the exact distance is D. That s m/D differs from s m/L, by at most
-- c/1000, is added to the half.
pub distance_v :
    {u : ℤ} {b : ℕ} (s L c : ℕ) (m : ℤ) (D : Positive)
    → 0 < L
    → Half (m *ℤ pos s) L u
    → nat_abs m * s ≤ b * L
    → 1000 * (b * nat_abs (pos D.top -ℤ pos (L * D.bottom))) ≤ c * D.top
    → Val s u (whole m ÷ᶠ D) (500 + c) b
unfolding whole ◌÷ᶠ◌
distance_v {u} {b} s L c m D p h l d =
    let l' : nat_abs (m *ℤ pos s) ≤ b * L = rw (abs-* m (pos s)) l in
    record {
      off =
          quotient-bound (miss s u (whole m ÷ᶠ D)) (pos L *ℤ u -ℤ m *ℤ pos s) (m *ℤ pos s)
          (pos D.top -ℤ pos (L * D.bottom)) L D.top b c p (miss-quotient s L m u D) h.off l' d;
      size = quotient-size p h l';
    }

-- u is m s divided by the whole distance L and rounded
pub quotient_v :
    {u : ℤ} {b : ℕ} (s L : ℕ) (m : ℤ) (p : 0 < L)
    → Half (m *ℤ pos s) L u
    → nat_abs m * s ≤ b * L
    → Val s u (whole m ÷ᶠ wholly L p) 500 b
unfolding wholly
quotient_v {b} s L m p h l =
    distance_v s L 0 m (wholly L p) p h l (rw (Needs.self-off L) (omega arith))

-- the same against a distance D from L up to L + 1, where L is at least 1000 b / c: the true one lies there
pub true_v :
    {u : ℤ} {b : ℕ} (s L c : ℕ) (m : ℤ) (D : Positive)
    → 0 < L
    → L * D.bottom ≤ D.top
    → D.top ≤ suc L * D.bottom
    → 1000 * b ≤ c * L
    → Half (m *ℤ pos s) L u
    → nat_abs m * s ≤ b * L
    → Val s u (whole m ÷ᶠ D) (500 + c) b
true_v {b = b} s L c m D p low high small h l =
    distance_v s L c m D p h l
    (omega (
      arith,
      mul-le-mul_left b (Needs.near-whole L D.top D.bottom low high),
      mul-le-mul_right D.bottom small,
      mul-le-mul_left c low,
    ))

-- ---- the end of a chain

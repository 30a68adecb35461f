-- Values that follow the distances: sums, multiples, products and quotients of steady values are steady.
--
-- `near k p` says how near the choice p is to what is looked for. A value f is steady where it is bounded, and at two choices that are near by k it is at most
-- slope/k apart; what the size and the slope come to does not matter.
use mathlib.Core.Path.{◌≡◌}
use mathlib.Core.List.{[], ◌∷◌}
use Prim.Native.Nat.{ℕ, ◌+◌, ◌*◌, ◌≤◌}
use native.Mathlib.Nat.{le_refl, le_trans, mul-le-mul, mul-le-mul_left, mul-le-mul_right}
use native.Mathlib.Omega.{arith}
use lib.IntN.{ℤ, pos, neg_ℤ, nat_abs, ◌+ℤ◌, ◌*ℤ◌}
use Rattle.algebra.specs.Fraction.{Fraction, Positive, divisor, divisor_pos, timesᵖ, ◌+ᶠ◌, ◌-ᶠ◌, ◌*ᶠ◌, ◌·ᶠ◌, ◌/ᶠ◌, ◌÷ᶠ◌}
use Rattle.algebra.proofs.IntLaws.{abs_neg, abs-+, abs--, abs-*, -ℤ-self}
use Rattle.algebra.proofs.Ring.{quote, by-ring}
use Rattle.laws.specs.RealDistances.{gap, Apart}

-- X is at most b
pub record Sized (b : ℕ) (X : Fraction) : Type 0 where
  pub size : nat_abs X.num ≤ b * X.den

-- a positive fraction among the others
abbrev pub number : Positive → Fraction
number D = record { num = pos D.top; den = D.bottom; den_pos = D.bottom_pos }

-- f is at most `size`, and at most slope/k apart at two choices near by k
pub record Steady {A : Type 0} (near : ℕ → A → Type 0) (f : A → Fraction) : Type 0 where
  pub size : ℕ
  pub slope : ℕ
  pub sized : (k : ℕ) (p : A) → near k p → Sized size (f p)
  pub follows : (k : ℕ) (p q : A) → near k p → near k q → Apart k slope (f p) (f q)

-- a distance of at least 1, and at most c/k apart at two choices near by k
pub record Lasting {A : Type 0} (near : ℕ → A → Type 0) (c : ℕ) (D : A → Positive) : Type 0 where
  pub one : (k : ℕ) (p : A) → near k p → (D p).bottom ≤ (D p).top
  pub follows : (k : ℕ) (p q : A) → near k p → near k q → Apart k c (number (D p)) (number (D q))

-- ---- what two gaps come to

-- u and v, times k, are at most c and d; a and b, which they are multiplied by, are at most e and f
mixed :
    (u v a b : ℤ) (k c d e f : ℕ)
    → k * nat_abs u ≤ c
    → k * nat_abs v ≤ d
    → nat_abs a ≤ e
    → nat_abs b ≤ f
    → k * nat_abs (u *ℤ a +ℤ b *ℤ v) ≤ c * e + f * d
mixed u v a b k c d e f hu hv ha hb =
    let sum : nat_abs (u *ℤ a +ℤ b *ℤ v) ≤ nat_abs u * nat_abs a + nat_abs b * nat_abs v = omega (arith, abs-+ (u *ℤ a) (b *ℤ v), abs-* u a, abs-* b v) in
    let l : k * nat_abs u * nat_abs a ≤ c * e = mul-le-mul hu ha in
    let r : nat_abs b * (k * nat_abs v) ≤ f * d = mul-le-mul hb hv in
    omega (arith, mul-le-mul_left k sum)

times-size : {b : ℕ} {X : Fraction} (e : ℕ) → Sized b X → nat_abs (X.num *ℤ pos e) ≤ b * X.den * e
times-size {b} {X} e h = omega (arith, abs-* X.num (pos e), mul-le-mul_right e h.size)

-- ---- sums and differences

sum-gap : (X Y X' Y' : Fraction) → gap (X +ᶠ X') (Y +ᶠ Y') ≡ gap X Y *ℤ pos (X'.den * Y'.den) +ℤ pos (X.den * Y.den) *ℤ gap X' Y'
unfolding ◌+ᶠ◌
sum-gap X Y X' Y' =
    by-ring (X.num ∷ Y.num ∷ X'.num ∷ Y'.num ∷ pos X.den ∷ pos Y.den ∷ pos X'.den ∷ pos Y'.den ∷ []) (search quote depth 40) tt

difference-gap : (X Y X' Y' : Fraction) → gap (X -ᶠ X') (Y -ᶠ Y') ≡ gap X Y *ℤ pos (X'.den * Y'.den) +ℤ neg_ℤ (pos (X.den * Y.den)) *ℤ gap X' Y'
unfolding ◌-ᶠ◌
difference-gap X Y X' Y' =
    by-ring (X.num ∷ Y.num ∷ X'.num ∷ Y'.num ∷ pos X.den ∷ pos Y.den ∷ pos X'.den ∷ pos Y'.den ∷ []) (search quote depth 40) tt

-- n is the first two denominators, of either sign
added :
    {k c d : ℕ} {X Y X' Y' : Fraction} (n : ℤ)
    → nat_abs n ≤ X.den * Y.den
    → Apart k c X Y
    → Apart k d X' Y'
    → k * nat_abs (gap X Y *ℤ pos (X'.den * Y'.den) +ℤ n *ℤ gap X' Y') ≤ (c + d) * (X.den * X'.den * (Y.den * Y'.den))
added {k} {c} {d} {X} {Y} {X'} {Y'} n s h l =
    let p = X.den * Y.den in
    let q = X'.den * Y'.den in
    omega (arith, mixed (gap X Y) (gap X' Y') (pos q) n k (c * p) (d * q) q p h.off l.off (le_refl q) s)

sum-apart : {k c d : ℕ} {X Y X' Y' : Fraction} → Apart k c X Y → Apart k d X' Y' → Apart k (c + d) (X +ᶠ X') (Y +ᶠ Y')
unfolding ◌+ᶠ◌
sum-apart {X = X} {Y} {X'} {Y'} h l = record { off = rw (sum-gap X Y X' Y') (added (pos (X.den * Y.den)) (le_refl (X.den * Y.den)) h l) }

difference-apart : {k c d : ℕ} {X Y X' Y' : Fraction} → Apart k c X Y → Apart k d X' Y' → Apart k (c + d) (X -ᶠ X') (Y -ᶠ Y')
unfolding ◌-ᶠ◌
difference-apart {X = X} {Y} {X'} {Y'} h l =
    let n = neg_ℤ (pos (X.den * Y.den)) in
    record { off = rw (difference-gap X Y X' Y') (added n (omega (arith, abs_neg (pos (X.den * Y.den)))) h l) }

sum-sized : {a b : ℕ} {X Y : Fraction} → Sized a X → Sized b Y → Sized (a + b) (X +ᶠ Y)
unfolding ◌+ᶠ◌
sum-sized {X = X} {Y} h l =
    record { size = omega (arith, times-size Y.den h, times-size X.den l, abs-+ (X.num *ℤ pos Y.den) (Y.num *ℤ pos X.den)) }

difference-sized : {a b : ℕ} {X Y : Fraction} → Sized a X → Sized b Y → Sized (a + b) (X -ᶠ Y)
unfolding ◌-ᶠ◌
difference-sized {X = X} {Y} h l =
    record { size = omega (arith, times-size Y.den h, times-size X.den l, abs-- (X.num *ℤ pos Y.den) (Y.num *ℤ pos X.den)) }

-- what both have in common: sizes and slopes add up
record Adds (op : Fraction → Fraction → Fraction) : Type 0 where
  sizes : (a b : ℕ) (X Y : Fraction) → Sized a X → Sized b Y → Sized (a + b) (op X Y)
  slopes : (k c d : ℕ) (X Y X' Y' : Fraction) → Apart k c X Y → Apart k d X' Y' → Apart k (c + d) (op X X') (op Y Y')

sums : Adds ◌+ᶠ◌
sums = record { sizes = λ (a b : ℕ) (X Y : Fraction). sum-sized; slopes = λ (k c d : ℕ) (X Y X' Y' : Fraction). sum-apart }

differences : Adds ◌-ᶠ◌
differences = record { sizes = λ (a b : ℕ) (X Y : Fraction). difference-sized; slopes = λ (k c d : ℕ) (X Y X' Y' : Fraction). difference-apart }

-- ---- products and quotients

product-gap : (X Y X' Y' : Fraction) → gap (X *ᶠ X') (Y *ᶠ Y') ≡ gap X Y *ℤ (X'.num *ℤ pos Y'.den) +ℤ Y.num *ℤ pos X.den *ℤ gap X' Y'
unfolding ◌*ᶠ◌
product-gap X Y X' Y' =
    by-ring (X.num ∷ Y.num ∷ X'.num ∷ Y'.num ∷ pos X.den ∷ pos Y.den ∷ pos X'.den ∷ pos Y'.den ∷ []) (search quote depth 40) tt

product-apart :
    {k c d a b : ℕ} {X Y X' Y' : Fraction} → Apart k c X Y → Apart k d X' Y' → Sized a Y → Sized b X' → Apart k (c * b + a * d) (X *ᶠ X') (Y *ᶠ Y')
unfolding ◌*ᶠ◌
product-apart {k} {c} {d} {a} {b} {X} {Y} {X'} {Y'} h h' y x =
    record {
      off =
          rw (product-gap X Y X' Y')
          (omega (
            arith,
            mixed (gap X Y) (gap X' Y') (X'.num *ℤ pos Y'.den) (Y.num *ℤ pos X.den) k (c * (X.den * Y.den)) (d * (X'.den * Y'.den))
                (b * X'.den * Y'.den) (a * Y.den * X.den) h.off h'.off (times-size Y'.den x) (times-size X.den y),
          ));
    }

quotient-gap :
    (X Y : Fraction) (D E : Positive)
    → gap (X ÷ᶠ D) (Y ÷ᶠ E) ≡ gap X Y *ℤ pos (D.bottom * E.top) +ℤ Y.num *ℤ pos X.den *ℤ gap (number E) (number D)
unfolding ◌÷ᶠ◌
quotient-gap X Y D E =
    by-ring (X.num ∷ Y.num ∷ pos X.den ∷ pos Y.den ∷ pos D.top ∷ pos D.bottom ∷ pos E.top ∷ pos E.bottom ∷ []) (search quote depth 40) tt

quotient-apart :
    {k c d a : ℕ} {X Y : Fraction} (D E : Positive)
    → Apart k c X Y → Apart k d (number E) (number D) → Sized a Y → D.bottom ≤ D.top → E.bottom ≤ E.top → Apart k (c + a * d) (X ÷ᶠ D) (Y ÷ᶠ E)
unfolding ◌÷ᶠ◌
quotient-apart {k} {c} {d} {a} {X} {Y} D E h h' y one one' =
    let e = D.top * E.top in
    let near : k * nat_abs (gap (number E) (number D)) ≤ d * e = le_trans h'.off (omega (arith, mul-le-mul_left d (mul-le-mul one' one))) in
    record {
      off =
          rw (quotient-gap X Y D E)
          (omega (
            arith,
            mixed (gap X Y) (gap (number E) (number D)) (pos (D.bottom * E.top)) (Y.num *ℤ pos X.den) k (c * (X.den * Y.den)) (d * e)
                e (a * Y.den * X.den) h.off near (mul-le-mul_right E.top one) (times-size X.den y),
          ));
    }

product-sized : {a b : ℕ} {X Y : Fraction} → Sized a X → Sized b Y → Sized (a * b) (X *ᶠ Y)
unfolding ◌*ᶠ◌
product-sized {X = X} {Y} h l = record { size = omega (arith, abs-* X.num Y.num, mul-le-mul h.size l.size) }

quotient-sized : {a : ℕ} {X : Fraction} (D : Positive) → D.bottom ≤ D.top → Sized a X → Sized a (X ÷ᶠ D)
unfolding ◌÷ᶠ◌
quotient-sized {a} {X} D one h = record { size = omega (arith, times-size D.bottom h, mul-le-mul_left (a * X.den) one) }

-- ---- multiples, and parts

times-apart : {k c : ℕ} {X Y : Fraction} (n : ℤ) → Apart k c X Y → Apart k (nat_abs n * c) (n ·ᶠ X) (n ·ᶠ Y)
unfolding ◌·ᶠ◌
times-apart {k} {c} {X} {Y} n h =
    let e : gap (n ·ᶠ X) (n ·ᶠ Y) ≡ n *ℤ gap X Y = by-ring (n ∷ X.num ∷ Y.num ∷ pos X.den ∷ pos Y.den ∷ []) (search quote depth 30) tt in
    record { off = rw (e, abs-* n (gap X Y)) (omega (arith, mul-le-mul_left (nat_abs n) h.off)) }

times-sized : {a : ℕ} {X : Fraction} (n : ℤ) → Sized a X → Sized (nat_abs n * a) (n ·ᶠ X)
unfolding ◌·ᶠ◌
times-sized {X = X} n h = record { size = omega (arith, abs-* n X.num, mul-le-mul_left (nat_abs n) h.size) }

-- over n, or over 1 for 0: no larger than it was
over-apart : {k c : ℕ} {X Y : Fraction} (n : ℕ) → Apart k c X Y → Apart k c (X /ᶠ n) (Y /ᶠ n)
unfolding ◌/ᶠ◌
over-apart {k} {c} {X} {Y} n h =
    let d = divisor n in
    let e : gap (X /ᶠ n) (Y /ᶠ n) ≡ gap X Y *ℤ pos d = by-ring (X.num ∷ Y.num ∷ pos X.den ∷ pos Y.den ∷ pos d ∷ []) (search quote depth 30) tt in
    record {
      off =
          rw (e, abs-* (gap X Y) (pos d))
          (omega (arith, mul-le-mul_right d h.off, mul-le-mul_left (c * (X.den * Y.den) * d) (divisor_pos n)));
    }

over_sized : {a : ℕ} {X : Fraction} (n : ℕ) → Sized a X → Sized a (X /ᶠ n)
unfolding ◌/ᶠ◌
over_sized {a} {X} n h = record { size = omega (arith, h.size, mul-le-mul_left (a * X.den) (divisor_pos n)) }

-- ---- the laws

module _ {A : Type 0} {near : ℕ → A → Type 0} where
  pub constant : (X : Fraction) → Steady near (λ (p : A). X)
  constant X =
      record {
        size = nat_abs X.num;
        slope = 0;
        sized = λ (k : ℕ) (p : A) (h : near k p). record { size = omega (arith, mul-le-mul_left (nat_abs X.num) X.den_pos) };
        follows = λ (k : ℕ) (p q : A) (h : near k p) (l : near k q). record { off = rw (-ℤ-self (X.num *ℤ pos X.den)) (omega arith) };
      }

  combine : {f g : A → Fraction} {op : Fraction → Fraction → Fraction} → Adds op → Steady near f → Steady near g → Steady near (λ (p : A). op (f p) (g p))
  combine {f} {g} adds a b =
      record {
        size = a.size + b.size;
        slope = a.slope + b.slope;
        sized = λ (k : ℕ) (p : A) (h : near k p). adds.sizes a.size b.size (f p) (g p) (a.sized k p h) (b.sized k p h);
        follows =
            λ (k : ℕ) (p q : A) (h : near k p) (l : near k q).
            adds.slopes k a.slope b.slope (f p) (f q) (g p) (g q) (a.follows k p q h l) (b.follows k p q h l);
      }

  pub plus : {f g : A → Fraction} → Steady near f → Steady near g → Steady near (λ (p : A). f p +ᶠ g p)
  plus = combine sums

  pub minus : {f g : A → Fraction} → Steady near f → Steady near g → Steady near (λ (p : A). f p -ᶠ g p)
  minus = combine differences

  pub times : {f : A → Fraction} (n : ℤ) → Steady near f → Steady near (λ (p : A). n ·ᶠ f p)
  times n a =
      record {
        size = nat_abs n * a.size;
        slope = nat_abs n * a.slope;
        sized = λ (k : ℕ) (p : A) (h : near k p). times-sized n (a.sized k p h);
        follows = λ (k : ℕ) (p q : A) (h : near k p) (l : near k q). times-apart n (a.follows k p q h l);
      }

  pub over : {f : A → Fraction} (n : ℕ) → Steady near f → Steady near (λ (p : A). f p /ᶠ n)
  over n a =
      record {
        size = a.size;
        slope = a.slope;
        sized = λ (k : ℕ) (p : A) (h : near k p). over_sized n (a.sized k p h);
        follows = λ (k : ℕ) (p q : A) (h : near k p) (l : near k q). over-apart n (a.follows k p q h l);
      }

  pub mul : {f g : A → Fraction} → Steady near f → Steady near g → Steady near (λ (p : A). f p *ᶠ g p)
  mul a b =
      record {
        size = a.size * b.size;
        slope = a.slope * b.size + a.size * b.slope;
        sized = λ (k : ℕ) (p : A) (h : near k p). product-sized (a.sized k p h) (b.sized k p h);
        follows =
            λ (k : ℕ) (p q : A) (h : near k p) (l : near k q).
            product-apart (a.follows k p q h l) (b.follows k p q h l) (a.sized k q l) (b.sized k p h);
      }

  -- by a distance
  pub divide : {f : A → Fraction} {c : ℕ} {D : A → Positive} → Lasting near c D → Steady near f → Steady near (λ (p : A). f p ÷ᶠ D p)
  divide {c = c} {D} d a =
      record {
        size = a.size;
        slope = a.slope + a.size * c;
        sized = λ (k : ℕ) (p : A) (h : near k p). quotient-sized (D p) (d.one k p h) (a.sized k p h);
        follows =
            λ (k : ℕ) (p q : A) (h : near k p) (l : near k q).
            quotient-apart (D p) (D q) (a.follows k p q h l) (d.follows k q p l h) (a.sized k q l) (d.one k p h) (d.one k q l);
      }

  -- n times a distance
  pub timesᵈ : {c : ℕ} {D : A → Positive} (n : ℕ) → Lasting near c D → Lasting near (divisor n * c) (λ (p : A). timesᵖ n (D p))
  unfolding ◌·ᶠ◌
  timesᵈ {D = D} n d =
      record {
        one = λ (k : ℕ) (p : A) (h : near k p). le_trans (d.one k p h) (omega (arith, mul-le-mul_right (D p).top (divisor_pos n)));
        follows = λ (k : ℕ) (p q : A) (h : near k p) (l : near k q). times-apart (pos (divisor n)) (d.follows k p q h l);
      }

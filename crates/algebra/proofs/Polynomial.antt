-- Polynomials over ℤ that compute: sums, products and the test for zero, each with what it means for the values.
--
-- A polynomial in the variables x, y, z .. is a number, or p + x·q with p in y, z .. only and q in x, y, z .. again. So
-- the order of the variables sorts the monomials, and no monomial is compared with another. A coefficient is a
-- difference of two naturals: its sum and product are native sums and products, which compute at once.
use mathlib.Core.Path.{◌≡◌, sym, ◌∙◌, ap, ap₂}
use mathlib.Core.List.{List, [], ◌∷◌}
use mathlib.Core.Bool.{Bool, true, false}
use Prim.Native.Nat.{ℕ, ◌+◌, ◌*◌}
use native.Mathlib.Omega.{arith}
use lib.Dec.{T, eqb, eqb→eq}
use lib.IntN.{ℤ, pos, neg_ℤ, ◌+ℤ◌, ◌*ℤ◌, *ℤ_comm, +ℤ_assoc}
use Rattle.algebra.proofs.Difference.{◌⊖◌, split, add-⊖, neg-⊖, mul-⊖, ℤ⊖}
use Rattle.algebra.proofs.IntLaws.{*ℤ-assoc, *ℤ-+ℤ, +ℤ-*ℤ}

-- the values of the variables; past the end they are 0
abbrev pub Env : Type 0
Env = List ℤ

abbrev pub first : Env → ℤ
first [] = pos 0
first (x ∷ ρ) = x

abbrev pub rest : Env → Env
rest [] = []
rest (x ∷ ρ) = ρ

pub data Poly : Type 0 where
  con : ℕ → ℕ → Poly
  more : Poly → Poly → Poly

abbrev pub value : Env → Poly → ℤ
value ρ (con p n) = p ⊖ n
value ρ (more p q) = value (rest ρ) p +ℤ first ρ *ℤ value ρ q

-- ---- a number added

abbrev pub raise : ℕ → ℕ → Poly → Poly
raise p n (con a b) = con (p + a) (n + b)
raise p n (more r s) = more (raise p n r) s

value-raise : (ρ : Env) (p n : ℕ) (r : Poly) → value ρ (raise p n r) ≡ p ⊖ n +ℤ value ρ r
value-raise ρ p n (con a b) = sym (add-⊖ p n a b)
value-raise ρ p n (more r s) =
    ap (λ (z : ℤ). z +ℤ first ρ *ℤ value ρ s) (value-raise (rest ρ) p n r)
    ∙ +ℤ_assoc (p ⊖ n) (value (rest ρ) r) (first ρ *ℤ value ρ s)

-- ---- sums

abbrev pub add : Poly → Poly → Poly
add (con p n) r = raise p n r
add (more p q) (con a b) = more (raise a b p) q
add (more p q) (more r s) = more (add p r) (add q s)

left : (c p y : ℤ) → c +ℤ p +ℤ y ≡ p +ℤ y +ℤ c
left c p y = rw (split c, split p, split y) (simp ℤ⊖ (omega arith))

both : (p r x q s : ℤ) → p +ℤ r +ℤ x *ℤ (q +ℤ s) ≡ p +ℤ x *ℤ q +ℤ (r +ℤ x *ℤ s)
both p r x q s = rw (split p, split r, split x, split q, split s) (simp ℤ⊖ (omega arith))

pub value-add : (ρ : Env) (p q : Poly) → value ρ (add p q) ≡ value ρ p +ℤ value ρ q
value-add ρ (con p n) r = value-raise ρ p n r
value-add ρ (more p q) (con a b) =
    ap (λ (z : ℤ). z +ℤ first ρ *ℤ value ρ q) (value-raise (rest ρ) a b p)
    ∙ left (a ⊖ b) (value (rest ρ) p) (first ρ *ℤ value ρ q)
value-add ρ (more p q) (more r s) =
    ap₂ (λ (y z : ℤ). y +ℤ first ρ *ℤ z) (value-add (rest ρ) p r) (value-add ρ q s)
    ∙ both (value (rest ρ) p) (value (rest ρ) r) (first ρ) (value ρ q) (value ρ s)

-- ---- negation

abbrev pub neg : Poly → Poly
neg (con p n) = con n p
neg (more p q) = more (neg p) (neg q)

neg-both : (p x q : ℤ) → neg_ℤ p +ℤ x *ℤ neg_ℤ q ≡ neg_ℤ (p +ℤ x *ℤ q)
neg-both p x q = rw (split p, split x, split q) (simp ℤ⊖ (omega arith))

pub value-neg : (ρ : Env) (p : Poly) → value ρ (neg p) ≡ neg_ℤ (value ρ p)
value-neg ρ (con p n) = sym (neg-⊖ p n)
value-neg ρ (more p q) =
    ap₂ (λ (y z : ℤ). y +ℤ first ρ *ℤ z) (value-neg (rest ρ) p) (value-neg ρ q)
    ∙ neg-both (value (rest ρ) p) (first ρ) (value ρ q)

-- ---- products

abbrev pub scale : ℕ → ℕ → Poly → Poly
scale p n (con a b) = con (p * a + n * b) (p * b + n * a)
scale p n (more r s) = more (scale p n r) (scale p n s)

through : (c p x q : ℤ) → c *ℤ p +ℤ x *ℤ (c *ℤ q) ≡ c *ℤ (p +ℤ x *ℤ q)
through c p x q =
    ap (λ (z : ℤ). c *ℤ p +ℤ z) (sym (*ℤ-assoc x c q) ∙ ap (λ (z : ℤ). z *ℤ q) (*ℤ_comm x c) ∙ *ℤ-assoc c x q)
    ∙ sym (*ℤ-+ℤ c p (x *ℤ q))

value-scale : (ρ : Env) (p n : ℕ) (r : Poly) → value ρ (scale p n r) ≡ (p ⊖ n) *ℤ value ρ r
value-scale ρ p n (con a b) = sym (mul-⊖ p n a b)
value-scale ρ p n (more r s) =
    ap₂ (λ (y z : ℤ). y +ℤ first ρ *ℤ z) (value-scale (rest ρ) p n r) (value-scale ρ p n s)
    ∙ through (p ⊖ n) (value (rest ρ) r) (first ρ) (value ρ s)

-- the product by a polynomial without the first variable, f the product by it of one that lacks that variable too
abbrev pub over : (Poly → Poly) → Poly → Poly
over f (con a b) = more (f (con a b)) (con 0 0)
over f (more r s) = more (f r) (over f s)

abbrev pub mul : Poly → Poly → Poly
mul (con p n) r = scale p n r
mul (more p q) r = add (over (λ (s : Poly). mul p s) r) (more (con 0 0) (mul q r))

no_more : (y x : ℤ) → y +ℤ x *ℤ (0 ⊖ 0) ≡ y
no_more y x = rw (split y, split x) (simp ℤ⊖ (omega arith))

value-over :
    (ρ : Env) (f : Poly → Poly) (c : ℤ)
    → ((r : Poly) → value (rest ρ) (f r) ≡ c *ℤ value (rest ρ) r)
    → (r : Poly) → value ρ (over f r) ≡ c *ℤ value ρ r
value-over ρ f c h (con a b) = no_more (value (rest ρ) (f (con a b))) (first ρ) ∙ h (con a b)
value-over ρ f c h (more r s) =
    ap₂ (λ (y z : ℤ). y +ℤ first ρ *ℤ z) (h r) (value-over ρ f c h s)
    ∙ through c (value (rest ρ) r) (first ρ) (value ρ s)

gather : (p x q r : ℤ) → p *ℤ r +ℤ (0 ⊖ 0 +ℤ x *ℤ (q *ℤ r)) ≡ (p +ℤ x *ℤ q) *ℤ r
gather p x q r = drop (p *ℤ r) (x *ℤ (q *ℤ r)) ∙ ap (λ (z : ℤ). p *ℤ r +ℤ z) (sym (*ℤ-assoc x q r)) ∙ sym (+ℤ-*ℤ p (x *ℤ q) r)
  where
    drop : (y z : ℤ) → y +ℤ (0 ⊖ 0 +ℤ z) ≡ y +ℤ z
    drop y z = rw (split y, split z) (simp ℤ⊖ (omega arith))

pub value-mul : (ρ : Env) (p q : Poly) → value ρ (mul p q) ≡ value ρ p *ℤ value ρ q
value-mul ρ (con p n) r = value-scale ρ p n r
value-mul ρ (more p q) r =
    value-add ρ (over (λ (s : Poly). mul p s) r) (more (con 0 0) (mul q r))
    ∙ ap₂ (λ (y z : ℤ). y +ℤ (0 ⊖ 0 +ℤ first ρ *ℤ z))
    (value-over ρ (λ (s : Poly). mul p s) (value (rest ρ) p) (λ (s : Poly). value-mul (rest ρ) p s) r)
    (value-mul ρ q r)
    ∙ gather (value (rest ρ) p) (first ρ) (value ρ q) (value ρ r)

-- ---- zero

abbrev pub none : Poly → Bool
none (con p n) = eqb p n
none (more p q) = elim (none p) [ true ↦ none q | false ↦ false ]

nought : (p n : ℕ) → p ≡ n → p ⊖ n ≡ pos 0
nought p n = simp ℤ⊖ (omega arith)

no-sum : (y x z : ℤ) → y ≡ pos 0 → z ≡ pos 0 → y +ℤ x *ℤ z ≡ pos 0
no-sum y x z h k = rw (h, k) (zero-sum x)
  where
    zero-sum : (x : ℤ) → pos 0 +ℤ x *ℤ pos 0 ≡ pos 0
    zero-sum x = rw (split x) (simp ℤ⊖ (omega arith))

pub value_none : (ρ : Env) (p : Poly) → T (none p) → value ρ p ≡ pos 0
value_none ρ (con p n) t = nought p n (eqb→eq p n t)
value_none ρ (more p q) t = go (none p) (value_none (rest ρ) p) (value_none ρ q) t
  where
    go :
        (b : Bool) → (T b → value (rest ρ) p ≡ pos 0)
        → (T (none q) → value ρ q ≡ pos 0)
        → T (elim b as (λ (_ : Bool). Bool) [ true ↦ none q | false ↦ false ])
        → value ρ (more p q) ≡ pos 0
    go true h k u = no-sum (value (rest ρ) p) (first ρ) (value ρ q) (h tt) (k u)
    go false h k u = absurd u

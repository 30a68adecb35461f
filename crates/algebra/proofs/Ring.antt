-- A ring normaliser for ℤ: an identity between sums, differences and products is proved by computing both sides.
--
-- One line: `by-ring (a ∷ b ∷ c ∷ []) (search quote depth 30) tt`. The list holds the atoms, at most twelve: variables, or any
-- terms that the identity treats as unknowns, `f x`, `pos n`, `pos (nat_abs z)`. One that is listed is taken whole, so list
-- either x *ℤ y or its factors. `search quote` reads the two sides as expressions over the atoms: it goes through +ℤ, -ℤ,
-- *ℤ, neg_ℤ, numerals, and sums, products and successors under `pos`. `tt` proves that the two have the same normal form.
-- A refused `search` means an atom is missing (or the sum is long: `depth 60 fits 5000`), a refused `tt` that the identity
-- is false. Small ones take under 0.05 s, the fourth power of a sum of six 0.3 s.
use mathlib.Core.Path.{◌≡◌, refl, sym, ◌∙◌, ap, ap₂}
use mathlib.Core.List.{◌∷◌}
use mathlib.Core.Bool.{Bool}
use Prim.Native.Nat.{ℕ, zero, suc, ◌+◌, ◌*◌}
use native.Mathlib.Numerals.{add-one}
use native.Mathlib.Omega.{arith}
use lib.Dec.{T, leb}
use lib.IntN.{ℤ, pos, negsuc, neg_ℤ, ◌+ℤ◌, ◌*ℤ◌}
use Rattle.algebra.proofs.Difference.{◌⊖◌, split, pos-⊖, negsuc-⊖, ℤ⊖}
use Rattle.algebra.proofs.Polynomial.{Env, first, rest, Poly, con, more, value, add, neg, mul, none, value-add, value-neg, value-mul, value_none}

infixl 6 ◌⊕◌
infixl 7 ◌⊗◌
pub data Expr : Type 0 where
  var : ℕ → Expr
  lit : ℤ → Expr
  ◌⊕◌ : Expr → Expr → Expr
  ◌⊗◌ : Expr → Expr → Expr
  minus : Expr → Expr

-- the n-th value
abbrev pub nth : Env → ℕ → ℤ
nth ρ zero = first ρ
nth ρ (suc n) = nth (rest ρ) n

abbrev pub eval : Env → Expr → ℤ
eval ρ (var n) = nth ρ n
eval ρ (lit z) = z
eval ρ (e ⊕ f) = eval ρ e +ℤ eval ρ f
eval ρ (e ⊗ f) = eval ρ e *ℤ eval ρ f
eval ρ (minus e) = neg_ℤ (eval ρ e)

-- ---- the normal form

abbrev pub variable : ℕ → Poly
variable zero = more (con 0 0) (con 1 0)
variable (suc n) = more (variable n) (con 0 0)

abbrev pub number : ℤ → Poly
number (pos n) = con n 0
number (negsuc n) = con 0 (suc n)

abbrev pub norm : Expr → Poly
norm (var n) = variable n
norm (lit z) = number z
norm (e ⊕ f) = add (norm e) (norm f)
norm (e ⊗ f) = mul (norm e) (norm f)
norm (minus e) = neg (norm e)

abbrev pub same : Expr → Expr → Bool
same e f = none (add (norm e) (neg (norm f)))

value-variable : (ρ : Env) (n : ℕ) → value ρ (variable n) ≡ nth ρ n
value-variable ρ zero = alone (first ρ)
  where
    alone : (x : ℤ) → 0 ⊖ 0 +ℤ x *ℤ (1 ⊖ 0) ≡ x
    alone x = rw (split x) (simp ℤ⊖ (omega arith))
value-variable ρ (suc n) = without (first ρ) (value (rest ρ) (variable n)) ∙ value-variable (rest ρ) n
  where
    without : (x y : ℤ) → y +ℤ x *ℤ (0 ⊖ 0) ≡ y
    without x y = rw (split x, split y) (simp ℤ⊖ (omega arith))

value-number : (ρ : Env) (z : ℤ) → value ρ (number z) ≡ z
value-number ρ (pos n) = sym (pos-⊖ n)
value-number ρ (negsuc n) = sym (negsuc-⊖ n)

pub value-norm : (ρ : Env) (e : Expr) → value ρ (norm e) ≡ eval ρ e
value-norm ρ (var n) = value-variable ρ n
value-norm ρ (lit z) = value-number ρ z
value-norm ρ (e ⊕ f) = value-add ρ (norm e) (norm f) ∙ ap₂ ◌+ℤ◌ (value-norm ρ e) (value-norm ρ f)
value-norm ρ (e ⊗ f) = value-mul ρ (norm e) (norm f) ∙ ap₂ ◌*ℤ◌ (value-norm ρ e) (value-norm ρ f)
value-norm ρ (minus e) = value-neg ρ (norm e) ∙ ap neg_ℤ (value-norm ρ e)

no-apart : (x y : ℤ) → x +ℤ neg_ℤ y ≡ pos 0 → x ≡ y
no-apart x y = rw (split x, split y) (simp ℤ⊖ (omega arith))

pub ring : (ρ : Env) (e f : Expr) → T (same e f) → eval ρ e ≡ eval ρ f
ring ρ e f t = no-apart (eval ρ e) (eval ρ f) (sym difference ∙ value_none ρ (add (norm e) (neg (norm f))) t)
  where
    difference : value ρ (add (norm e) (neg (norm f))) ≡ eval ρ e +ℤ neg_ℤ (eval ρ f)
    difference =
        value-add ρ (norm e) (neg (norm f))
        ∙ ap₂ ◌+ℤ◌ (value-norm ρ e) (value-neg ρ (norm f) ∙ ap neg_ℤ (value-norm ρ f))

-- ---- quotation

-- x with an expression for it. Records, so that the test sees the expression and no metavariable stands for it
pub record Quoted (ρ : Env) (x : ℤ) : Type 0 where
  pub expr : Expr
  pub is : eval ρ expr ≡ x

-- both sides of an equation
pub record Sides (ρ : Env) (x y : ℤ) : Type 0 where
  pub left : Quoted ρ x
  pub right : Quoted ρ y

abbrev pub q-sides : {ρ : Env} {x y : ℤ} → Quoted ρ x → Quoted ρ y → Sides ρ x y
q-sides p q = record { left = p; right = q }

abbrev pub q_add : {ρ : Env} {x y : ℤ} → Quoted ρ x → Quoted ρ y → Quoted ρ (x +ℤ y)
q_add p q = record { expr = p.expr ⊕ q.expr; is = ap₂ ◌+ℤ◌ p.is q.is }

abbrev pub q-mul : {ρ : Env} {x y : ℤ} → Quoted ρ x → Quoted ρ y → Quoted ρ (x *ℤ y)
q-mul p q = record { expr = p.expr ⊗ q.expr; is = ap₂ ◌*ℤ◌ p.is q.is }

abbrev pub q-neg : {ρ : Env} {x : ℤ} → Quoted ρ x → Quoted ρ (neg_ℤ x)
q-neg p = record { expr = minus p.expr; is = ap neg_ℤ p.is }

-- a numeral: the test computes at no other natural, so `pos n` is left to the atoms
abbrev pub q-pos : {ρ : Env} (n : ℕ) → T (leb 0 n) → Quoted ρ (pos n)
q-pos n t = record { expr = lit (pos n); is = refl }

abbrev pub q-negsuc : {ρ : Env} {n : ℕ} → Quoted ρ (pos n) → Quoted ρ (negsuc n)
q-negsuc {n} p =
    record {
      expr = minus (p.expr ⊕ lit (pos 1));
      is =
          ap (λ (z : ℤ). neg_ℤ (z +ℤ pos 1)) p.is ∙ ap (λ (k : ℕ). neg_ℤ (pos k)) (add-one n);
    }

-- +ℤ and *ℤ of two `pos` compute, so these are met where +ℤ or *ℤ was written
abbrev pub q-pos-add : {ρ : Env} {m n : ℕ} → Quoted ρ (pos m) → Quoted ρ (pos n) → Quoted ρ (pos (m + n))
q-pos-add p q = record { expr = p.expr ⊕ q.expr; is = ap₂ ◌+ℤ◌ p.is q.is }

abbrev pub q-pos-mul : {ρ : Env} {m n : ℕ} → Quoted ρ (pos m) → Quoted ρ (pos n) → Quoted ρ (pos (m * n))
q-pos-mul p q = record { expr = p.expr ⊗ q.expr; is = ap₂ ◌*ℤ◌ p.is q.is }

abbrev pub q-pos-suc : {ρ : Env} {n : ℕ} → Quoted ρ (pos n) → Quoted ρ (pos (suc n))
q-pos-suc {n} p =
    record { expr = p.expr ⊕ lit (pos 1); is = ap (λ (z : ℤ). z +ℤ pos 1) p.is ∙ ap pos (add-one n) }

-- The atoms, a rule for each place: a rule with no premise is tried first and costs the search one step, where a walk
-- along the list costs one for each place, at every term that is no atom too.
abbrev pub v₀ : {x₀ : ℤ} {ρ : Env} → Quoted (x₀ ∷ ρ) x₀
v₀ = record { expr = var 0; is = refl }

abbrev pub v₁ : {x₀ x₁ : ℤ} {ρ : Env} → Quoted (x₀ ∷ x₁ ∷ ρ) x₁
v₁ = record { expr = var 1; is = refl }

abbrev pub v₂ : {x₀ x₁ x₂ : ℤ} {ρ : Env} → Quoted (x₀ ∷ x₁ ∷ x₂ ∷ ρ) x₂
v₂ = record { expr = var 2; is = refl }

abbrev pub v₃ : {x₀ x₁ x₂ x₃ : ℤ} {ρ : Env} → Quoted (x₀ ∷ x₁ ∷ x₂ ∷ x₃ ∷ ρ) x₃
v₃ = record { expr = var 3; is = refl }

abbrev pub v₄ : {x₀ x₁ x₂ x₃ x₄ : ℤ} {ρ : Env} → Quoted (x₀ ∷ x₁ ∷ x₂ ∷ x₃ ∷ x₄ ∷ ρ) x₄
v₄ = record { expr = var 4; is = refl }

abbrev pub v₅ : {x₀ x₁ x₂ x₃ x₄ x₅ : ℤ} {ρ : Env} → Quoted (x₀ ∷ x₁ ∷ x₂ ∷ x₃ ∷ x₄ ∷ x₅ ∷ ρ) x₅
v₅ = record { expr = var 5; is = refl }

abbrev pub v₆ : {x₀ x₁ x₂ x₃ x₄ x₅ x₆ : ℤ} {ρ : Env} → Quoted (x₀ ∷ x₁ ∷ x₂ ∷ x₃ ∷ x₄ ∷ x₅ ∷ x₆ ∷ ρ) x₆
v₆ = record { expr = var 6; is = refl }

abbrev pub v₇ : {x₀ x₁ x₂ x₃ x₄ x₅ x₆ x₇ : ℤ} {ρ : Env} → Quoted (x₀ ∷ x₁ ∷ x₂ ∷ x₃ ∷ x₄ ∷ x₅ ∷ x₆ ∷ x₇ ∷ ρ) x₇
v₇ = record { expr = var 7; is = refl }

abbrev pub v₈ : {x₀ x₁ x₂ x₃ x₄ x₅ x₆ x₇ x₈ : ℤ} {ρ : Env} → Quoted (x₀ ∷ x₁ ∷ x₂ ∷ x₃ ∷ x₄ ∷ x₅ ∷ x₆ ∷ x₇ ∷ x₈ ∷ ρ) x₈
v₈ = record { expr = var 8; is = refl }

abbrev pub v₉ : {x₀ x₁ x₂ x₃ x₄ x₅ x₆ x₇ x₈ x₉ : ℤ} {ρ : Env} → Quoted (x₀ ∷ x₁ ∷ x₂ ∷ x₃ ∷ x₄ ∷ x₅ ∷ x₆ ∷ x₇ ∷ x₈ ∷ x₉ ∷ ρ) x₉
v₉ = record { expr = var 9; is = refl }

abbrev pub v₁₀ : {x₀ x₁ x₂ x₃ x₄ x₅ x₆ x₇ x₈ x₉ x₁₀ : ℤ} {ρ : Env} → Quoted (x₀ ∷ x₁ ∷ x₂ ∷ x₃ ∷ x₄ ∷ x₅ ∷ x₆ ∷ x₇ ∷ x₈ ∷ x₉ ∷ x₁₀ ∷ ρ) x₁₀
v₁₀ = record { expr = var 10; is = refl }

abbrev pub v₁₁ : {x₀ x₁ x₂ x₃ x₄ x₅ x₆ x₇ x₈ x₉ x₁₀ x₁₁ : ℤ} {ρ : Env} → Quoted (x₀ ∷ x₁ ∷ x₂ ∷ x₃ ∷ x₄ ∷ x₅ ∷ x₆ ∷ x₇ ∷ x₈ ∷ x₉ ∷ x₁₀ ∷ x₁₁ ∷ ρ) x₁₁
v₁₁ = record { expr = var 11; is = refl }

pub ruleset quote = (q-sides, v₀, v₁, v₂, v₃, v₄, v₅, v₆, v₇, v₈, v₉, v₁₀, v₁₁, q_add, q-mul, q-neg, q-pos, q-negsuc, q-pos-add, q-pos-mul, q-pos-suc, tt)

abbrev pub agree : {ρ : Env} {x y : ℤ} → Sides ρ x y → Bool
agree s = same s.left.expr s.right.expr

pub by-ring : {x y : ℤ} (ρ : Env) (s : Sides ρ x y) → T (agree s) → x ≡ y
by-ring ρ s t = sym s.left.is ∙ ring ρ s.left.expr s.right.expr t ∙ s.right.is

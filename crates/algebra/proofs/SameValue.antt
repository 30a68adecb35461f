-- Fractions of one value: the relation is an equivalence, every operation keeps it, and so does `Within`.
use mathlib.Core.Path.{◌≡◌, refl, sym, ap, ◌∙◌}
use Prim.Native.Nat.{ℕ, ◌*◌, ◌≤◌, ◌<◌}
use native.Mathlib.Nat.{mul-le-mul_right, le_of_mul-le-mul_right}
use native.Mathlib.Omega.{arith}
use lib.IntN.{ℤ, pos, nat_abs, ◌+ℤ◌, ◌*ℤ◌}
use Rattle.algebra.specs.Fraction.{Fraction, Positive, ◌≈◌, ◌+ᶠ◌, ◌*ᶠ◌, ◌÷ᶠ◌}
use Rattle.algebra.proofs.Difference.{split, ℤ⊖}
use Rattle.algebra.proofs.IntLaws.{abs-*}
use Rattle.algebra.proofs.ErrorNeeds.{apart, cancel}

-- ---- an equivalence

pub ≈-refl : (X : Fraction) → X ≈ X
≈-refl X = record { cross = refl }

pub ≈-sym : {X Y : Fraction} → X ≈ Y → Y ≈ X
≈-sym p = record { cross = sym p.cross }

swap : (N : ℤ) (D C : ℕ) → N *ℤ pos D *ℤ pos C ≡ N *ℤ pos C *ℤ pos D
swap N D C = rw (split N) (simp ℤ⊖ (omega arith))

pub ≈-trans : {X Y Z : Fraction} → X ≈ Y → Y ≈ Z → X ≈ Z
≈-trans {X} {Y} {Z} p q =
    record {
      cross =
          cancel (X.num *ℤ pos Z.den) (Z.num *ℤ pos X.den) Y.den Y.den_pos
          (swap X.num Z.den Y.den
          ∙ ap (λ (z : ℤ). z *ℤ pos Z.den) p.cross
          ∙ swap Y.num X.den Z.den
          ∙ ap (λ (z : ℤ). z *ℤ pos X.den) q.cross
          ∙ swap Z.num Y.den X.den);
    }

-- ---- `Within` goes by the value

within-bound :
    (u v : ℤ) (D C g : ℕ) → 0 < D → v *ℤ pos D ≡ u *ℤ pos C → nat_abs u ≤ g * D → nat_abs v ≤ g * C
within-bound u v D C g p i h =
    le_of_mul-le-mul_right {k = D}
    (omega (arith, abs-* v (pos D), ap nat_abs i, abs-* u (pos C), mul-le-mul_right C h))
    p

-- ---- the operations keep the value

plus-cross :
    (N M : ℤ) (D C D' C' : ℕ)
    → (N *ℤ pos C +ℤ M *ℤ pos D) *ℤ pos (D' * C') ≡ N *ℤ pos D' *ℤ pos (C * C') +ℤ M *ℤ pos C' *ℤ pos (D * D')
plus-cross N M D C D' C' = rw (split N, split M) (simp ℤ⊖ (omega arith))

plus-cross' :
    (N M : ℤ) (D C D' C' : ℕ)
    → N *ℤ pos D *ℤ pos (C * C') +ℤ M *ℤ pos C *ℤ pos (D * D') ≡ (N *ℤ pos C' +ℤ M *ℤ pos D') *ℤ pos (D * C)
plus-cross' N M D C D' C' = rw (split N, split M) (simp ℤ⊖ (omega arith))

pub plus-≈ : {X Y X' Y' : Fraction} → X ≈ X' → Y ≈ Y' → X +ᶠ Y ≈ X' +ᶠ Y'
unfolding ◌+ᶠ◌
plus-≈ {X} {Y} {X'} {Y'} p q =
    record {
      cross =
          plus-cross X.num Y.num X.den Y.den X'.den Y'.den
          ∙ ap (λ (z : ℤ). z *ℤ pos (Y.den * Y'.den) +ℤ Y.num *ℤ pos Y'.den *ℤ pos (X.den * X'.den)) p.cross
          ∙ ap (λ (z : ℤ). X'.num *ℤ pos X.den *ℤ pos (Y.den * Y'.den) +ℤ z *ℤ pos (X.den * X'.den)) q.cross
          ∙ plus-cross' X'.num Y'.num X.den Y.den X'.den Y'.den;
    }

pub mul-≈ : {X Y X' Y' : Fraction} → X ≈ X' → Y ≈ Y' → X *ᶠ Y ≈ X' *ᶠ Y'
unfolding ◌*ᶠ◌
mul-≈ {X} {Y} {X'} {Y'} p q =
    record {
      cross =
          apart X.num Y.num X'.den Y'.den
          ∙ ap (λ (z : ℤ). z *ℤ (Y.num *ℤ pos Y'.den)) p.cross
          ∙ ap (λ (z : ℤ). X'.num *ℤ pos X.den *ℤ z) q.cross
          ∙ sym (apart X'.num Y'.num X.den Y.den);
    }

by-cross : (N : ℤ) (D t b : ℕ) → N *ℤ pos b *ℤ pos (D * t) ≡ N *ℤ pos D *ℤ pos (b * t)
by-cross N D t b = rw (split N) (simp ℤ⊖ (omega arith))

pub by-≈ : {X Y : Fraction} (D : Positive) → X ≈ Y → X ÷ᶠ D ≈ Y ÷ᶠ D
unfolding ◌÷ᶠ◌
by-≈ {X} {Y} D p =
    record {
      cross =
          by-cross X.num Y.den D.top D.bottom
          ∙ ap (λ (z : ℤ). z *ℤ pos (D.bottom * D.top)) p.cross
          ∙ sym (by-cross Y.num X.den D.top D.bottom);
    }

-- ---- forms of one value

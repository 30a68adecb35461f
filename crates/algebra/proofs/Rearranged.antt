-- Fractions of one value in another order: the exact formulas as the steps of the paper order them, for any fractions in the places of A, T, K
-- and the rest.
use mathlib.Core.List.{[], ◌∷◌}
use Prim.Native.Nat.{ℕ, ◌<◌}
use lib.IntN.{pos}
use Rattle.algebra.specs.Fraction.{Fraction, Positive, ◌≈◌, divisor, whole, wholly, timesᵖ, negᶠ, ◌+ᶠ◌, ◌-ᶠ◌, ◌*ᶠ◌, ◌·ᶠ◌, ◌÷ᶠ◌}
use Rattle.algebra.proofs.Ring.{quote, by-ring}
use Rattle.algebra.proofs.SameValue.{≈-refl, ≈-sym, ≈-trans, plus-≈, mul-≈, by-≈}

-- ---- products

mul_assoc : (X Y Z : Fraction) → X *ᶠ (Y *ᶠ Z) ≈ X *ᶠ Y *ᶠ Z
unfolding ◌*ᶠ◌
mul_assoc X Y Z =
    record { cross = by-ring (X.num ∷ Y.num ∷ Z.num ∷ pos X.den ∷ pos Y.den ∷ pos Z.den ∷ []) (search quote depth 30) tt }

mul-plus : (X Y Z : Fraction) → X *ᶠ (Y +ᶠ Z) ≈ X *ᶠ Y +ᶠ X *ᶠ Z
unfolding ◌*ᶠ◌ ◌+ᶠ◌
mul-plus X Y Z =
    record { cross = by-ring (X.num ∷ Y.num ∷ Z.num ∷ pos X.den ∷ pos Y.den ∷ pos Z.den ∷ []) (search quote depth 30) tt }

minus-mul : (X Y Z : Fraction) → (X -ᶠ Y) *ᶠ Z ≈ X *ᶠ Z +ᶠ negᶠ (Y *ᶠ Z)
unfolding ◌*ᶠ◌ ◌+ᶠ◌ ◌-ᶠ◌ negᶠ
minus-mul X Y Z =
    record { cross = by-ring (X.num ∷ Y.num ∷ Z.num ∷ pos X.den ∷ pos Y.den ∷ pos Z.den ∷ []) (search quote depth 30) tt }

-- ---- the permanent shift: A upward, T sin 2φ northward, s the sine of the latitude

turned : (T s u : Fraction) → negᶠ (pos 2 ·ᶠ (T *ᶠ (s *ᶠ s)) *ᶠ u) ≈ T *ᶠ ((pos 2 ·ᶠ s) *ᶠ (whole (pos 0) -ᶠ s *ᶠ u))
unfolding whole ◌-ᶠ◌ ◌*ᶠ◌ ◌·ᶠ◌ negᶠ
turned T s u =
    record { cross = by-ring (T.num ∷ s.num ∷ u.num ∷ pos T.den ∷ pos s.den ∷ pos u.den ∷ []) (search quote depth 30) tt }

-- x and y: (A - 2 T s²) u
pub across-same :
    (A T s u : Fraction)
    → (A -ᶠ pos 2 ·ᶠ (T *ᶠ (s *ᶠ s))) *ᶠ u ≈ A *ᶠ u +ᶠ T *ᶠ ((pos 2 ·ᶠ s) *ᶠ (whole (pos 0) -ᶠ s *ᶠ u))
across-same A T s u = ≈-trans (minus-mul A (pos 2 ·ᶠ (T *ᶠ (s *ᶠ s))) u) (plus-≈ (≈-refl (A *ᶠ u)) (turned T s u))

grouped : (X Y Z : Fraction) → X +ᶠ Y -ᶠ Z ≈ X +ᶠ (Y -ᶠ Z)
unfolding ◌+ᶠ◌ ◌-ᶠ◌
grouped X Y Z =
    record { cross = by-ring (X.num ∷ Y.num ∷ Z.num ∷ pos X.den ∷ pos Y.den ∷ pos Z.den ∷ []) (search quote depth 30) tt }

plus-mul : (X Y Z : Fraction) → (X +ᶠ Y) *ᶠ Z ≈ X *ᶠ Z +ᶠ Y *ᶠ Z
unfolding ◌*ᶠ◌ ◌+ᶠ◌
plus-mul X Y Z =
    record { cross = by-ring (X.num ∷ Y.num ∷ Z.num ∷ pos X.den ∷ pos Y.den ∷ pos Z.den ∷ []) (search quote depth 30) tt }

raised : (T s : Fraction) → (pos 2 ·ᶠ T -ᶠ pos 2 ·ᶠ (T *ᶠ (s *ᶠ s))) *ᶠ s ≈ T *ᶠ ((pos 2 ·ᶠ s) *ᶠ (whole (pos 1) -ᶠ s *ᶠ s))
unfolding whole ◌-ᶠ◌ ◌*ᶠ◌ ◌·ᶠ◌
raised T s = record { cross = by-ring (T.num ∷ s.num ∷ pos T.den ∷ pos s.den ∷ []) (search quote depth 30) tt }

-- z: (A + 2 T - 2 T s²) s
pub along-same :
    (A T s : Fraction)
    → (A +ᶠ pos 2 ·ᶠ T -ᶠ pos 2 ·ᶠ (T *ᶠ (s *ᶠ s))) *ᶠ s ≈ A *ᶠ s +ᶠ T *ᶠ ((pos 2 ·ᶠ s) *ᶠ (whole (pos 1) -ᶠ s *ᶠ s))
along-same A T s =
    let B = pos 2 ·ᶠ T in
    let C = pos 2 ·ᶠ (T *ᶠ (s *ᶠ s)) in
    ≈-trans (mul-≈ (grouped A B C) (≈-refl s)) (≈-trans (plus-mul A (B -ᶠ C) s) (plus-≈ (≈-refl (A *ᶠ s)) (raised T s)))

-- ---- one body's tide

by-mul : (X Y : Fraction) (D : Positive) → X ÷ᶠ D *ᶠ Y ≈ (X *ᶠ Y) ÷ᶠ D
unfolding ◌*ᶠ◌ ◌÷ᶠ◌
by-mul X Y D =
    record {
      cross =
          by-ring
          (X.num ∷ Y.num ∷ pos X.den ∷ pos Y.den ∷ pos D.top ∷ pos D.bottom ∷ [])
          (search quote depth 30)
          tt;
    }

-- the reference distance r0 and the distance R, in one unit, n of a smaller one
module _ (n r0 : ℕ) (p : 0 < r0) (R : Positive) where
  abbrev reference : Positive
  reference = timesᵖ n (wholly r0 p)

  abbrev distance : Positive
  distance = timesᵖ n R

  abbrev nearness : Fraction
  nearness = whole (pos r0) ÷ᶠ R

  nearer : (X : Fraction) → X ÷ᶠ reference *ᶠ nearness ≈ X ÷ᶠ distance
  unfolding whole wholly ◌*ᶠ◌ ◌÷ᶠ◌
  nearer X =
      record {
        cross =
            by-ring
            (X.num ∷ pos X.den ∷ pos r0 ∷ pos (divisor n) ∷ pos R.top ∷ pos R.bottom ∷ [])
            (search quote depth 30)
            tt;
      }

  nearer₂ : (X : Fraction) → X ÷ᶠ reference ÷ᶠ distance *ᶠ nearness ≈ X ÷ᶠ distance ÷ᶠ distance
  nearer₂ X = ≈-trans (by-mul (X ÷ᶠ reference) nearness distance) (by-≈ distance (nearer X))

  nearer₃ : (X : Fraction) → X ÷ᶠ reference ÷ᶠ distance ÷ᶠ distance *ᶠ nearness ≈ X ÷ᶠ distance ÷ᶠ distance ÷ᶠ distance
  nearer₃ X = ≈-trans (by-mul (X ÷ᶠ reference ÷ᶠ distance) nearness distance) (by-≈ distance (nearer₂ X))

  -- over the third power of the reference distance, times (r0/R)³, is over the third power of R
  pub cubes-same :
      (G : Fraction) → G ÷ᶠ reference ÷ᶠ reference ÷ᶠ reference *ᶠ (nearness *ᶠ nearness *ᶠ nearness) ≈ G ÷ᶠ distance ÷ᶠ distance ÷ᶠ distance
  cubes-same G =
      let q = nearness in
      let D = reference in
      let keep : q ≈ q = ≈-refl q in
      ≈-trans (mul_assoc (G ÷ᶠ D ÷ᶠ D ÷ᶠ D) (q *ᶠ q) q)
      (≈-trans (mul-≈ (mul_assoc (G ÷ᶠ D ÷ᶠ D ÷ᶠ D) q q) keep)
      (≈-trans (mul-≈ (mul-≈ (nearer (G ÷ᶠ D ÷ᶠ D)) keep) keep)
      (≈-trans (mul-≈ (nearer₂ (G ÷ᶠ D)) keep)
      (nearer₃ G))))

  nearer₄ : (X : Fraction) → X ÷ᶠ reference ÷ᶠ distance ÷ᶠ distance ÷ᶠ distance *ᶠ nearness ≈ X ÷ᶠ distance ÷ᶠ distance ÷ᶠ distance ÷ᶠ distance
  nearer₄ X = ≈-trans (by-mul (X ÷ᶠ reference ÷ᶠ distance ÷ᶠ distance) nearness distance) (by-≈ distance (nearer₃ X))

  -- and the fourth, times (r0/R)⁴
  pub fourths-same :
      (G : Fraction)
      → G ÷ᶠ reference ÷ᶠ reference ÷ᶠ reference ÷ᶠ reference *ᶠ (nearness *ᶠ nearness *ᶠ nearness *ᶠ nearness) ≈ G ÷ᶠ distance ÷ᶠ distance ÷ᶠ distance ÷ᶠ distance
  fourths-same G =
      let q = nearness in
      let D = reference in
      ≈-trans (mul_assoc (G ÷ᶠ D ÷ᶠ D ÷ᶠ D ÷ᶠ D) (q *ᶠ q *ᶠ q) q) (≈-trans (mul-≈ (cubes-same (G ÷ᶠ D)) (≈-refl q)) (nearer₄ G))

inner : (K h P : Fraction) → h *ᶠ K *ᶠ P ≈ K *ᶠ (h *ᶠ P)
unfolding ◌*ᶠ◌
inner K h P =
    record { cross = by-ring (K.num ∷ h.num ∷ P.num ∷ pos K.den ∷ pos h.den ∷ pos P.den ∷ []) (search quote depth 30) tt }

thrice : (K l c : Fraction) → pos 3 ·ᶠ (l *ᶠ K *ᶠ c) ≈ K *ᶠ (pos 3 ·ᶠ (l *ᶠ c))
unfolding ◌*ᶠ◌ ◌·ᶠ◌
thrice K l c =
    record { cross = by-ring (K.num ∷ l.num ∷ c.num ∷ pos K.den ∷ pos l.den ∷ pos c.den ∷ []) (search quote depth 30) tt }

-- rho u + t w, with rho = h K P, t = 3 l K c, and w for d - c u
pub part_same :
    (K h P u l c w : Fraction)
    → h *ᶠ K *ᶠ P *ᶠ u +ᶠ pos 3 ·ᶠ (l *ᶠ K *ᶠ c) *ᶠ w ≈ K *ᶠ (h *ᶠ P *ᶠ u +ᶠ pos 3 ·ᶠ (l *ᶠ c) *ᶠ w)
part_same K h P u l c w =
    ≈-trans
    (plus-≈
    (≈-trans (mul-≈ (inner K h P) (≈-refl u)) (≈-sym (mul_assoc K (h *ᶠ P) u)))
    (≈-trans (mul-≈ (thrice K l c) (≈-refl w)) (≈-sym (mul_assoc K (pos 3 ·ᶠ (l *ᶠ c)) w))))
    (≈-sym (mul-plus K (h *ᶠ P *ᶠ u) (pos 3 ·ᶠ (l *ᶠ c) *ᶠ w)))

-- a u + b w, of which a and b have the factor K
factored : (K a b A B u w : Fraction) → a ≈ K *ᶠ A → b ≈ K *ᶠ B → a *ᶠ u +ᶠ b *ᶠ w ≈ K *ᶠ (A *ᶠ u +ᶠ B *ᶠ w)
factored K a b A B u w e f =
    let by : (X Y v : Fraction) → X ≈ K *ᶠ Y → X *ᶠ v ≈ K *ᶠ (Y *ᶠ v) = λ X Y v h. ≈-trans (mul-≈ h (≈-refl v)) (≈-sym (mul_assoc K Y v)) in
    ≈-trans (plus-≈ (by a A u e) (by b B w f)) (≈-sym (mul-plus K (A *ᶠ u) (B *ᶠ w)))

-- rho u + t w, with rho = h K P, t = l K v, and w for d - c u
pub third-same :
    (K h P u l v w : Fraction)
    → h *ᶠ K *ᶠ P *ᶠ u +ᶠ l *ᶠ K *ᶠ v *ᶠ w ≈ K *ᶠ (h *ᶠ P *ᶠ u +ᶠ l *ᶠ v *ᶠ w)
third-same K h P u l v w = factored K (h *ᶠ K *ᶠ P) (l *ᶠ K *ᶠ v) (h *ᶠ P) (l *ᶠ v) u w (inner K h P) (inner K l v)

-- Unit vectors after rounding: u = near(m E/l) of a vector m of whole length l.
--
-- Each component is at most E. The sum of the squares is more than E² by a little: each component is off by half a unit, and the whole
-- length l is short of the true one by less than 1. So the cosine of two of them is more than E by a little too.
use mathlib.Core.Path.{◌≡◌, subst}
use mathlib.Core.List.{[], ◌∷◌}
use Prim.Native.Nat.{ℕ, suc, ◌+◌, ◌*◌, ◌≤◌, ◌<◌}
use native.Mathlib.Nat.{le_refl, le_trans, mul-le-mul, lt_of_not-le, le_of_suc-le-suc}
use native.Mathlib.Omega.{arith}
use lib.IntN.{ℤ, pos, nat_abs, ◌+ℤ◌, ◌-ℤ◌, ◌*ℤ◌}
use Rattle.algebra.proofs.IntLaws.{abs-+, abs-*, square}
use Rattle.algebra.proofs.Machine.{plain, lit, v*}
use Rattle.algebra.proofs.Ring.{quote}
use Rattle.algebra.proofs.Certificate.{slackℕ, natural, ◌⊞◌, ◌⊠◌, ◌⊡◌, poly≤ℕ}
use Rattle.mark.specs.declared.Vec3.{Vec3}
use Rattle.mark.specs.Mark.{squares, length_of}
use Rattle.mark.specs.Ranges.{Within}
use Rattle.mark.proofs.LengthLaws.{within-length}
use Rattle.tides.specs.Direction.{E, unit, units}
use Rattle.tides.specs.Tide.{cosine}
use Rattle.tides.specs.Steps.{Direction}
use Rattle.numbers.specs.Root.{IsRoot}
use Rattle.numbers.proofs.RootLaws.{root_is}
use Rattle.numbers.proofs.NearLaws.{near-size, near-bound}

-- ---- the whole length

length-is : (l : ℕ) (v : Vec3) → length_of v ≡ l → IsRoot (squares v) l
unfolding length_of
length-is l v e = subst (λ (r : ℕ). IsRoot (squares v) r) e (root_is (squares v))

-- no component is longer than the whole
pub length-within : (l : ℕ) (v : Vec3) → length_of v ≡ l → Within l v
length-within l v e = subst (λ (n : ℕ). Within n v) e (within-length v)

-- ---- each component

unit-within : (l : ℕ) (m : ℤ) → nat_abs m ≤ l → nat_abs (unit l m) ≤ E
unfolding unit
unit-within l m h = near-bound (m *ℤ pos E) l E (le_trans (v* (plain m h) (lit E)).small (omega arith))

pub direction-within : (l : ℕ) (v : Vec3) → length_of v ≡ l → Within E (units l v)
direction-within l v e =
    let w = length-within l v e in
    record {
      x = unit-within l v.x w.x;
      y = unit-within l v.y w.y;
      z = unit-within l v.z w.z;
    }

-- ---- the sum of the squares

unit_size : (l : ℕ) (m : ℤ) → 0 < l → 2 * (l * nat_abs (unit l m)) ≤ 2 * (nat_abs m * E) + l
unfolding unit
unit_size l m h = omega (arith, near-size (m *ℤ pos E) l h, abs-* m (pos E))

-- the same squared, e for E
squared : (e l a x : ℕ) → 2 * (l * x) ≤ 2 * (a * e) + l → 4 * (l * l * (x * x)) ≤ 4 * (a * a * (e * e)) + 4 * (a * (e * l)) + l * l
squared e l a x h =
    poly≤ℕ (pos e ∷ pos l ∷ pos a ∷ pos x ∷ []) (slackℕ (mul-le-mul h h)) (search quote depth 30) tt

-- (a + b + c)² ≤ 3 (a² + b² + c²)
sum-squared : (a b c : ℕ) → (a + b + c) * (a + b + c) ≤ 3 * (a * a + b * b + c * c)
sum-squared a b c =
    poly≤ℕ (pos a ∷ pos b ∷ pos c ∷ [])
    (square (pos a -ℤ pos b) ⊞ square (pos b -ℤ pos c) ⊞ square (pos a -ℤ pos c))
    (search quote depth 30) tt

sum_twice : (l a b c : ℕ) → a * a + b * b + c * c < (l + 1) * (l + 1) → 6 ≤ l → a + b + c ≤ 2 * l
sum_twice l a b c h k =
    le_of_suc-le-suc
    (lt_of_not-le
    (λ (m : suc (2 * l) ≤ a + b + c). absurd (omega (arith, mul-le-mul m m, sum-squared a b c, mul-le-mul k (le_refl l)))))

-- A for a² + b² + c², s for a + b + c, X for the sum of the three squares x²
gathered :
    (e n l A s X : ℕ)
    → 4 * (l * l * X) ≤ 4 * (A * (e * e)) + 4 * (s * (e * l)) + 3 * (l * l)
    → A ≤ l * l + 2 * l
    → s ≤ 2 * l
    → 2 * e ≤ n * l
    → 4 * (l * l * X) ≤ 4 * (l * l * (e * e + (n + 2) * e)) + 3 * (l * l)
gathered e n l A s X h h_a hs hn =
    poly≤ℕ (pos e ∷ pos n ∷ pos l ∷ pos A ∷ pos s ∷ pos X ∷ [])
    (slackℕ h
    ⊞ 4 ⊡ (slackℕ h_a ⊠ natural (e * e))
    ⊞ 4 ⊡ (slackℕ hs ⊠ natural (e * l))
    ⊞ 4 ⊡ (slackℕ hn ⊠ natural (e * l)))
    (search quote depth 30) tt

-- 4 k X ≤ 4 k Y + 3 k with k > 0 leaves X ≤ Y
quarters : (k X Y : ℕ) → 0 < k → 4 * (k * X) ≤ 4 * (k * Y) + 3 * k → X ≤ Y
quarters k X Y p h =
    le_of_suc-le-suc (lt_of_not-le (λ (m : suc Y ≤ X). absurd (omega (arith, mul-le-mul (le_refl k) m))))

summed :
    (e n l a b c x y z : ℕ)
    → 2 * (l * x) ≤ 2 * (a * e) + l
    → 2 * (l * y) ≤ 2 * (b * e) + l
    → 2 * (l * z) ≤ 2 * (c * e) + l
    → a * a + b * b + c * c < (l + 1) * (l + 1)
    → 6 ≤ l
    → 2 * e ≤ n * l
    → x * x + y * y + z * z ≤ e * e + (n + 2) * e
summed e n l a b c x y z hx hy hz h k hn =
    quarters (l * l) (x * x + y * y + z * z) (e * e + (n + 2) * e) (omega (arith, mul-le-mul k k))
    (gathered e n l (a * a + b * b + c * c) (a + b + c) (x * x + y * y + z * z)
    (omega (arith, squared e l a x hx, squared e l b y hy, squared e l c z hz))
    (omega arith)
    (sum_twice l a b c h k)
    hn)

pub direction-sum : (n l : ℕ) (v : Vec3) → length_of v ≡ l → 6 ≤ l → 2 * E ≤ n * l → squares (units l v) ≤ E * E + (n + 2) * E
unfolding squares
direction-sum n l v e k hn =
    let p : 0 < l = omega arith in
    summed E n l (nat_abs v.x) (nat_abs v.y) (nat_abs v.z) (nat_abs (unit l v.x)) (nat_abs (unit l v.y)) (nat_abs (unit l v.z))
    (unit_size l v.x p)
    (unit_size l v.y p)
    (unit_size l v.z p)
    (length-is l v e).above
    k
    hn

-- the mark's: 2 E is at most 341 times 6,300,000
pub mark-direction : (l : ℕ) (v : Vec3) → length_of v ≡ l → 6300000 ≤ l → Direction (units l v)
mark-direction l v e h =
    record {
      each = direction-within l v e;
      whole = le_trans (direction-sum 341 l v e (omega arith) (omega arith)) (omega arith);
    }

-- a body's: 2 E is at most 15 times 146,000,000
pub body-sum : (r : ℕ) (v : Vec3) → length_of v ≡ r → 146000000 ≤ r → squares (units r v) ≤ E * E + 18 * E
body-sum r v e h = le_trans (direction-sum 15 r v e (omega arith) (omega arith)) (omega arith)

-- ---- the cosine

-- 2 |a b| ≤ a² + b²
mean : (a b : ℕ) → 2 * (a * b) ≤ a * a + b * b
mean a b = poly≤ℕ (pos a ∷ pos b ∷ []) (square (pos a -ℤ pos b)) (search quote depth 30) tt

mean-abs : (a b : ℤ) → 2 * nat_abs (a *ℤ b) ≤ nat_abs a * nat_abs a + nat_abs b * nat_abs b
mean-abs a b = omega (arith, abs-* a b, mean (nat_abs a) (nat_abs b))

inner : (u d : Vec3) → 2 * nat_abs (u.x *ℤ d.x +ℤ u.y *ℤ d.y +ℤ u.z *ℤ d.z) ≤ squares u + squares d
unfolding squares
inner u d =
    omega (
      arith,
      abs-+ (u.x *ℤ d.x +ℤ u.y *ℤ d.y) (u.z *ℤ d.z),
      abs-+ (u.x *ℤ d.x) (u.y *ℤ d.y),
      mean-abs u.x d.x,
      mean-abs u.y d.y,
      mean-abs u.z d.z,
    )

pub cosine-bound : (u d : Vec3) → Direction u → squares d ≤ E * E + 18 * E → nat_abs (cosine u d) ≤ E + 182
unfolding cosine
cosine-bound u d p q =
    near-bound (u.x *ℤ d.x +ℤ u.y *ℤ d.y +ℤ u.z *ℤ d.z) E (E + 182) (omega (arith, inner u d, p.whole))

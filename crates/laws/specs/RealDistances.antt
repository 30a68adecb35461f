-- The real distances of a mark and of rounded body vectors, and the fractions that stand for them.
--
-- The real distance of (x, y, z) is the root of x² + y² + z², the whole one the whole root n. The fractions are those from n up to, but not including, n + 1,
-- in the vector's unit: metres for the mark and the Moon, kilometres for the Sun. The real one lies there. It need not be a fraction: then fractions from n
-- come as near to it as is wanted (`Nearly`), and a formula has its value at it as the limit of its values at these (`CloseToLimit`).
use Rattle.std.specs.Prelude.{◌≡◌, ℕ, ◌+◌, ◌*◌, ◌≤◌, ◌<◌, ℤ, pos, nat_abs, ◌-ℤ◌, ◌*ℤ◌}
use Rattle.algebra.specs.Fraction.{Fraction, Positive}
use Rattle.mark.specs.declared.Vec3.{Vec3}
use Rattle.mark.specs.Mark.{squares, length_of}
use Rattle.laws.specs.Formulas.{Vector, Close}

-- the published bound at these distances: 2 micrometres, in grains
abbrev pub real_bound : ℕ
real_bound = 2922

-- the fraction D is at least n and less than n + 1
pub record From (n : ℕ) (D : Positive) : Type 0 where
  pub least : n * D.bottom ≤ D.top
  pub less : D.top < (n + 1) * D.bottom

-- ---- the real distance

-- D is the real distance of v: D² = x² + y² + z²
pub record Real (v : Vec3) (D : Positive) : Type 0 where
  pub square : D.top * D.top ≡ squares v * (D.bottom * D.bottom)

-- D is from the whole distance of v, not above the real one, and less than 1/k below it: D² ≤ x² + y² + z² < (D + 1/k)²
pub record Nearly (k : ℕ) (v : Vec3) (D : Positive) : Type 0 where
  pub from : From (length_of v) D
  pub under : D.top * D.top ≤ squares v * (D.bottom * D.bottom)
  pub over : squares v * (k * D.bottom * (k * D.bottom)) < (k * D.top + D.bottom) * (k * D.top + D.bottom)

-- distances of the mark, the Moon and the Sun, each in its own unit
pub record Choice : Type 0 where
  pub mark : Positive
  pub moon : Positive
  pub sun : Positive

-- each of them nearly the real one of its vector
pub record Chosen (k : ℕ) (m v w : Vec3) (p : Choice) : Type 0 where
  pub mark : Nearly k m p.mark
  pub moon : Nearly k v p.moon
  pub sun : Nearly k w p.sun

-- ---- a value at the real distances

-- X less Y, times both denominators
abbrev pub gap : Fraction → Fraction → ℤ
gap X Y = X.num *ℤ pos Y.den -ℤ Y.num *ℤ pos X.den

-- X and Y are at most c/k apart
pub record Apart (k c : ℕ) (X Y : Fraction) : Type 0 where
  pub off : k * nat_abs (gap X Y) ≤ c * (X.den * Y.den)

pub record ApartEach (k c : ℕ) (v w : Vector) : Type 0 where
  pub x : Apart k c v.x w.x
  pub y : Apart k c v.y w.y
  pub z : Apart k c v.z w.z

-- `near k p` says that p is less than 1/k from the real distances. There is such a p for every k, and all that are nearer are among them. Two of them give
-- values of f at most slope/k apart: so f has one value at the real distances, the limit. The whole vector t lies within g of f at every p, and so of the limit
pub record CloseToLimit {A : Type 0} (near : ℕ → A → Type 0) (g : ℕ) (t : Vec3) (f : A → Vector) : Type 0 where
  pub some : (k : ℕ) → 0 < k → (p : A) × near k p
  pub nearer : (j k : ℕ) (p : A) → k ≤ j → near j p → near k p
  pub slope : ℕ
  pub settles : (k : ℕ) (p q : A) → near k p → near k q → ApartEach k slope (f p) (f q)
  pub close : (k : ℕ) (p : A) → near k p → Close g t (f p)

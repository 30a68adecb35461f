-- The mark: x, y, z in whole metres. The root L of x² + y² + z² is from 6,300,000 to 6,400,000.
use Rattle.std.specs.Prelude.{Bool, not, cond, ◌&&◌, [], ◌∷◌, ℕ, Option, Some, None, ◌+◌, ◌*◌, ◌^◌, leb, ltb, ℤ, pos, nat_abs, ◌+ℤ◌, ◌-ℤ◌, ◌*ℤ◌}
use Rattle.refusal.specs.Refusal.{first}
use Rattle.refusal.specs.Answered.{Answered}
use Rattle.numbers.specs.Root.{root}
use Rattle.mark.specs.declared.Vec3.{Vec3}

-- grains in a metre
abbrev pub metre : ℕ
metre = 1461000000

abbrev pub vec : ℤ → ℤ → ℤ → Vec3
vec a b c = record { x = a; y = b; z = c }

abbrev pub nowhere : Vec3
nowhere = vec (pos 0) (pos 0) (pos 0)

-- one rule for three components
abbrev pub each : (ℤ → ℤ) → Vec3 → Vec3
each f v = vec (f v.x) (f v.y) (f v.z)

-- sums, differences and multiples, a component at a time
unfoldable pub plus : Vec3 → Vec3 → Vec3
plus v w = vec (v.x +ℤ w.x) (v.y +ℤ w.y) (v.z +ℤ w.z)

unfoldable pub minus : Vec3 → Vec3 → Vec3
minus v w = vec (v.x -ℤ w.x) (v.y -ℤ w.y) (v.z -ℤ w.z)

unfoldable pub scaled : ℤ → Vec3 → Vec3
scaled k v = vec (k *ℤ v.x) (k *ℤ v.y) (k *ℤ v.z)

-- x² + y² + z²
unfoldable pub squares : Vec3 → ℕ
squares v = nat_abs v.x * nat_abs v.x + nat_abs v.y * nat_abs v.y + nat_abs v.z * nat_abs v.z

-- the whole length of a vector: the root of that sum
unfoldable pub length_of : Vec3 → ℕ
length_of v = root (squares v)

abbrev pub between : ℕ → ℕ → ℕ → Bool
between low high n = leb low n && leb n high

unfoldable pub marked : Vec3 → Bool
marked m = between 6300000 6400000 (length_of m)

-- x² + y² + z² where the whole length lies from low to high
unfoldable pub squares_within : ℕ → ℕ → Vec3 → Option ℕ
squares_within low high v = cond (between low high (length_of v)) (Some (squares v)) None

-- the whole length where it lies from low to high, else 0
unfoldable pub length_within : ℕ → ℕ → Vec3 → ℕ
length_within low high v = cond (between low high (length_of v)) (length_of v) 0

-- the same for a mark's range, metres
abbrev pub mark_length : Vec3 → ℕ
mark_length m = length_within 6300000 6400000 m

-- what is answered for any range: one that goes to 2^30 or beyond is not asked for, and holds nothing
abbrev pub squares_asked : ℕ → ℕ → Vec3 → Option ℕ
squares_asked low high v = cond (ltb high (2 ^ 30)) (squares_within low high v) None

-- refusal 6: mark
unfoldable pub mark_number : Vec3 → ℕ
mark_number m = first ((6, not (marked m)) ∷ [])

-- that number, and the whole length, which is 0 where the mark is refused
abbrev pub mark_answer : Vec3 → Answered ℕ
mark_answer m = record { number = mark_number m; value = mark_length m }

-- each of three numbers is at most n in size
unfoldable pub sized : ℕ → Vec3 → Bool
sized n v = leb (nat_abs v.x) n && leb (nat_abs v.y) n && leb (nat_abs v.z) n

-- Bodies: a Moon in metres or a Sun in kilometres, three doubles each, rounded to wholes; the pair put in order; the distances.
use Rattle.std.specs.Prelude.{Bool, true, false, ◌&&◌, ℕ, ℤ, pos}
use Rattle.mark.specs.declared.Vec3.{Vec3}
use Rattle.mark.specs.Mark.{vec, length_of, between}
use Rattle.tides.specs.declared.BodyVector.{BodyVector}
use Rattle.tides.specs.declared.Body.{Body}
use Rattle.tides.specs.declared.Body.TheVariants.{Moon, Sun}
use Rattle.numbers.specs.Whole.{Nearest, none, some, whole_of}

-- what the paper says of a kind of body: the reference distance R0, K0 in grains, and the range of R
pub record Kind : Type 0 where
  pub r0 : ℕ
  pub k0 : ℕ
  pub low : ℕ
  pub high : ℕ

-- metres
abbrev pub moon : Kind
moon = record { r0 = 384400000; k0 = 523578453; low = 350000000; high = 410000000 }

-- K0 of the Moon's degree three, grains
abbrev pub third_k0 : ℕ
third_k0 = 8687448

-- kilometres
abbrev pub sun : Kind
sun = record { r0 = 149597870; k0 = 240449078; low = 146000000; high = 153000000 }

abbrev pub is_number : Nearest → Bool
is_number none = false
is_number (some z) = true

abbrev pub number_of : Nearest → ℤ
number_of none = pos 0
number_of (some z) = z

-- each double is rounded to the nearest whole, of any size
unfoldable pub wholes : BodyVector → Vec3
wholes v = vec (number_of (whole_of v.x)) (number_of (whole_of v.y)) (number_of (whole_of v.z))

unfoldable pub finite : BodyVector → Bool
finite v = is_number (whole_of v.x) && is_number (whole_of v.y) && is_number (whole_of v.z)

-- R, the root of the sum of squares of the rounded components, lies in the kind's range
unfoldable pub in_reach : Kind → BodyVector → Bool
in_reach k v = between k.low k.high (length_of (wholes v))

-- one Moon and one Sun, in either order
unfoldable pub paired : Body → Body → Bool
paired (Moon v) (Moon w) = false
paired (Moon v) (Sun w) = true
paired (Sun v) (Moon w) = true
paired (Sun v) (Sun w) = false

abbrev pub vector_of : Body → BodyVector
vector_of (Moon v) = v
vector_of (Sun v) = v

-- the Moon of a pair, and its Sun
unfoldable pub moon_of : Body → Body → BodyVector
moon_of (Moon v) b = v
moon_of (Sun v) b = vector_of b

unfoldable pub sun_of : Body → Body → BodyVector
sun_of (Moon v) b = vector_of b
sun_of (Sun v) b = v

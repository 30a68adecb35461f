-- The layout: a record is the site, frame, byte 10, a zero byte, then numbers in turn, big-endian, two's complement.
use Rattle.std.specs.Prelude.{cond, List, [], ◌∷◌, ◌++◌, ℕ, ◌+◌, ◌*◌, ltb, length, take, replicate, ℤ}
use Rattle.octets.specs.Octets.{bytes_of, signed_at, splice}
use Rattle.mark.specs.declared.Vec3.{Vec3}
use Rattle.mark.specs.Mark.{vec}

-- numbers with their widths in bytes, in the record's order
abbrev pub Fields : Type 0
Fields = List (ℕ × ℤ)

unfoldable pub run : Fields → List ℕ
run [] = []
run (field ∷ rest) = bytes_of field.0 field.1 ++ run rest

-- three numbers of one width
abbrev pub three : ℕ → Vec3 → Fields → Fields
three w v rest = (w, v.x) ∷ (w, v.y) ∷ (w, v.z) ∷ rest

unfoldable pub vector_at : List ℕ → ℕ → ℕ → Vec3
vector_at s at w = vec (signed_at s at w) (signed_at s (at + w) w) (signed_at s (at + 2 * w) w)

-- bytes 0 to 11
unfoldable pub first_twelve : List ℕ → ℕ → ℕ → List ℕ
first_twelve site frame tide = site ++ (frame ∷ tide ∷ 0 ∷ [])

-- ---- the same in steps, as code reads and writes it

-- the first nine bytes; of fewer, nine zeros
unfoldable pub site_of : List ℕ → List ℕ
site_of s = cond (ltb (length s) 9) (replicate 9 0) (take 9 s)

-- three numbers of w bytes each, written from place `at`
unfoldable pub spliced : List ℕ → ℕ → ℕ → Vec3 → List ℕ
spliced s at w v = splice (splice (splice s at (bytes_of w v.x)) (at + w) (bytes_of w v.y)) (at + 2 * w) (bytes_of w v.z)

-- bytes 0 to 11 written
unfoldable pub headed : List ℕ → List ℕ → ℕ → ℕ → List ℕ
headed s site frame tide = splice (splice s 0 site) 9 (frame ∷ tide ∷ 0 ∷ [])

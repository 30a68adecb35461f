-- The parts of a vector's payload. What lies past the end reads as 0.
use Rattle.std.specs.Prelude.{◌≡◌, ℕ, ◌+◌, cond, List, ◌++◌, eqb, get_or, length, Option}
use Rattle.std.specs.Io.KnownBytes.{Consumes}
use Rattle.wire.specs.Kinds.{kind_of}
use Rattle.wire.specs.declared.Kind.{Kind}
use Rattle.octets.specs.Octets.{double_at}
use Rattle.tides.specs.declared.Body.{Body}
use Rattle.tides.specs.declared.Body.TheVariants.{Moon, Sun}
use Rattle.tides.specs.declared.BodyVector.{BodyVector}

-- the three doubles of the body at `at`: its label comes first
abbrev pub body_vector_at : List ℕ → ℕ → BodyVector
body_vector_at s at = record { x = double_at s (at + 1); y = double_at s (at + 9); z = double_at s (at + 17) }

-- label 0 is a Moon, any other a Sun
unfoldable pub body_at : List ℕ → ℕ → Body
body_at s at = cond (eqb (get_or s at 0) 0) (Moon (body_vector_at s at)) (Sun (body_vector_at s at))

-- a vector was taken from the stream: a header of 8 bytes, the first of which is the kind's number, and then the payload
abbrev pub TookVector : Option (List ℕ) → Option (List ℕ) → Kind → List ℕ → Type 0
TookVector old new kind payload = (header : List ℕ) × (length header ≡ 8) × (kind ≡ kind_of (get_or header 0 0)) × Consumes old new (header ++ payload)

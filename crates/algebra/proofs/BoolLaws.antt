-- Tests: from a test that is true to its truth and back, and two tests joined by `&&`. A negated test is in borrow.Author.Tests.
use mathlib.Core.Path.{◌≡◌, refl, subst⁻¹}
use mathlib.Core.Bool.{Bool, true, false, ◌&&◌, false≢true}
use lib.Dec.{T}

pub holds : (b : Bool) → T b → b ≡ true
holds true t = refl
holds false t = absurd t

pub passes : {b : Bool} → b ≡ true → T b
passes e = subst⁻¹ T e tt

-- ---- two tests that hold

pub both : (a b : Bool) → a && b ≡ true → (a ≡ true) × (b ≡ true)
both true b e = (refl, e)
both false b e = absurd (false≢true e)

pub and_left : (a b : Bool) → a && b ≡ true → a ≡ true
and_left a b e = (both a b e).0

pub and_right : (a b : Bool) → a && b ≡ true → b ≡ true
and_right a b e = (both a b e).1

pub and-true : (a b : Bool) → a ≡ true → b ≡ true → a && b ≡ true
and-true a b e f = rw (e, f)

-- ---- two tests of which one does not

pub and_first : (a b : Bool) → a ≡ false → a && b ≡ false
and_first a b e = rw e

pub and_second : (a b : Bool) → b ≡ false → a && b ≡ false
and_second true b e = e
and_second false b e = refl

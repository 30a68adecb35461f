-- A double as a whole number: the nearest one, an exact half to the even neighbour, of any size. Infinities and NaN have none.
use Rattle.std.specs.Prelude.{◌≡◌, Bool, true, false, cond, ℕ, ◌*◌, ◌^◌, ◌≤◌, ◌<◌, leb, ℤ, pos, neg_ℤ, nat_abs, Float}
use Rattle.std.specs.Float.{nan, inf, fin}
use Rattle.std.specs.Float.Ieee.{up, down}
use Rattle.numbers.specs.declared.Rounded.{Rounded}
use Rattle.numbers.specs.declared.Rounded.TheVariants.{NotFinite, Far, Number}
use Rattle.numbers.specs.Near.{near}

-- n with its sign
abbrev pub signed : Bool → ℕ → ℤ
signed true n = neg_ℤ (pos n)
signed false n = pos n

-- the whole number nearest to a double, if it is finite. `fin s m e` is m * 2 ^ e, and 2 ^ e is up e / down e
pub data Nearest : Type 0 where
  none : Nearest
  some : ℤ → Nearest

unfoldable pub whole_of : Float → Nearest
whole_of nan = none
whole_of (inf s) = none
whole_of (fin s m e) = some (near (signed s (m * up e)) (down e))

-- what each case of the answer means of that number: there is none; it lies farther than 2^30 from 0; it is z, which does not
unfoldable pub Means : Rounded → Nearest → Type 0
Means NotFinite n = n ≡ none
Means Far n = (z : ℤ) × ((n ≡ some z) × (2 ^ 30 < nat_abs z))
Means (Number z) n = (n ≡ some z) × (nat_abs z ≤ 2 ^ 30)

-- the one case that means it (laws `shown-means`, `means-shown`)
unfoldable pub shown : Nearest → Rounded
shown none = NotFinite
shown (some z) = cond (leb (nat_abs z) (2 ^ 30)) (Number z) Far

-- What an answer says in the paper's words: its number, 0 where it is accepted, and its value, or what the paper says that comes with a refusal.
use Rattle.std.specs.Prelude.{ℕ, Result, Ok, Err}
use Rattle.refusal.specs.declared.Refusal.{Refusal}
use Rattle.refusal.specs.declared.Refused.{Refused}
use Rattle.refusal.specs.declared.Refusal.TheVariants as Is

-- the paper's number of each refusal
abbrev pub number_of : Refusal → ℕ
number_of Is.Length = 1
number_of Is.Site = 2
number_of Is.Frame = 3
number_of Is.TideByte = 4
number_of Is.Epoch = 5
number_of Is.Mark = 6
number_of Is.Velocity = 7
number_of Is.Position = 8
number_of Is.StoredTide = 9
number_of Is.BodyNotFinite = 10
number_of Is.BodyDistance = 11
number_of Is.TideState = 12
number_of Is.MoveUnderSolidTide = 13
number_of Is.CatalogueLength = 14
number_of Is.NoSuchSite = 15
number_of Is.SeriesLength = 16
number_of Is.BodyPair = 17

-- an answer's number
abbrev pub number : {A : Type 0} → Result A Refusal → ℕ
number (Ok a) = 0
number (Err e) = number_of e

-- a number, 0 where a call is accepted, and a value
pub record Answered (A : Type 0) : Type 0 where
  pub number : ℕ
  pub value : A

-- what an answer says, where z comes with a refusal
abbrev pub answered : {A : Type 0} → A → Result A Refusal → Answered A
answered z (Ok a) = record { number = 0; value = a }
answered z (Err e) = record { number = number_of e; value = z }

-- a count, or a refusal and its place: the number, 0 where accepted, and the count or the place
abbrev pub counted : Result ℕ Refused → ℕ × ℕ
counted (Ok n) = (0, n)
counted (Err e) = (number_of e.refusal, e.place)

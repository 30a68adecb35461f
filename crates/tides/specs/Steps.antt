-- What the private steps ask for and answer, in the words of the paper's definitions. No promise to the outside cites these.
use Rattle.std.specs.Prelude.{◌≡◌, cond, ◌&&◌, Result, Ok, Err, ℕ, ◌+◌, ◌*◌, ◌≤◌, ◌^◌, leb, nat_abs, ℤ, pos, ◌+ℤ◌, ◌*ℤ◌, Float}
use Rattle.refusal.specs.declared.Refusal.{Refusal}
use Rattle.refusal.specs.declared.Refusal.TheVariants.{BodyNotFinite, BodyDistance}
use Rattle.mark.specs.declared.Vec3.{Vec3}
use Rattle.mark.specs.Mark.{squares, length_of, each, between}
use Rattle.mark.specs.Mark as Mark
use Rattle.mark.specs.Ranges.{Within}
unfoldable pub use Rattle.mark.specs.Mark.{plus}
use Rattle.tides.specs.declared.BodyVector.{BodyVector}
use Rattle.tides.specs.declared.bodies.Sight.{Sight}
use Rattle.tides.specs.declared.solid.Standing.{Standing}
use Rattle.tides.specs.Direction.{E}
use Rattle.tides.specs.Bodies.{wholes, finite, is_number, number_of, in_reach, moon, sun}
use Rattle.numbers.specs.Near.{near}
use Rattle.numbers.specs.Whole.{whole_of}

-- a unit vector after rounding: each component at most E, the length at most 172 units more than E
pub record Direction (u : Vec3) : Type 0 where
  pub each : Within E u
  pub whole : squares u ≤ E * E + 344 * E

-- how a body stands, in its ranges: q at most 1.1, d no longer than E, c at most E and 182 units
pub record Stood (b : Standing) : Type 0 where
  pub q : nat_abs b.q ≤ 1181116007
  pub d : Within E b.d
  pub c : nat_abs b.c ≤ E + 182

-- near((a E + b P) K/(10,000 E)): H and S of degree two, of a and b ten thousandths
unfoldable pub share_of : ℤ → ℤ → ℤ → ℤ → ℤ
share_of a b P k = near ((a *ℤ pos E +ℤ b *ℤ P) *ℤ k) (10000 * E)

-- a body that is seen and lies from low to high, in its own unit
pub record Reached (low high : ℕ) (s : Sight) : Type 0 where
  pub squares : s.squares ≡ Mark.squares s.at
  pub least : low ≤ length_of s.at
  pub most : length_of s.at ≤ high

-- a number past 2^30 in size stands for every one: no length so large is in reach
unfoldable pub clipped : ℤ → ℤ
clipped z = cond (leb (nat_abs z) (2 ^ 30)) z (pos (2 ^ 31))

-- a double as a whole number, or 10
unfoldable pub coordinate_of : Float → Result ℤ Refusal
coordinate_of x = cond (is_number (whole_of x)) (Ok (clipped (number_of (whole_of x)))) (Err BodyNotFinite)

unfoldable pub wholes_of : BodyVector → Result Vec3 Refusal
wholes_of v = cond (finite v) (Ok (each clipped (wholes v))) (Err BodyNotFinite)

-- what is seen of a body: its whole vector and the sum of its squares
abbrev pub seen : Vec3 → Sight
seen w = record { at = w; squares = squares w }

-- or 11, out of reach
unfoldable pub sight_of : ℕ → ℕ → Vec3 → Result Sight Refusal
sight_of low high w = cond (between low high (length_of w)) (Ok (seen w)) (Err BodyDistance)

-- a Moon and a Sun: 10 of either comes before 11 of either
unfoldable pub sights_of : BodyVector → BodyVector → Result (Sight × Sight) Refusal
sights_of v w =
    cond (finite v && finite w) (cond (in_reach moon v && in_reach sun w) (Ok (seen (wholes v), seen (wholes w))) (Err BodyDistance)) (Err BodyNotFinite)

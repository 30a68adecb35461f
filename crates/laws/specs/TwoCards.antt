-- Two cards side by side, as two instruments on one pillar have them: the same mark, frame, epoch and tides in force. Sites, positions and
-- velocities may differ.
use Rattle.std.specs.Prelude.{◌≡◌, Bool, not, ◌||◌, List, [], ◌∷◌, ℕ, ◌+◌, ◌*◌, T, eqb, ℤ, nat_abs}
use Rattle.mark.specs.declared.Vec3.{Vec3}
use Rattle.mark.specs.Mark.{minus}
use Rattle.card.specs.declared.Card.{Card}
use Rattle.card.specs.Calls.{Call}
use Rattle.laws.specs.Lists.{numbers, verdicts, tides_of}

pub record Alike (c c' : Card) : Type 0 where
  pub mark : c.mark ≡ c'.mark
  pub frame : c.frame ≡ c'.frame
  pub epoch : c.epoch ≡ c'.epoch
  -- byte 10 and the stored vector
  pub tides : tides_of c ≡ tides_of c'

-- each call of the list is accepted by both or refused by both
abbrev pub Agree : Card → Card → List Call → Type 0
Agree c c' ks = verdicts (numbers c ks) ≡ verdicts (numbers c' ks)

-- the vector between them: what the first one's position has more than the second one's, grains
abbrev pub between : Card → Card → Vec3
between c c' = minus c.position c'.position

-- how fast they part: the same of their velocities, micrometres a year, which is grains a quarter-day
abbrev pub parting : Card → Card → Vec3
parting c c' = minus c.velocity c'.velocity

-- 7 and 8: a velocity or a position past its limit
abbrev pub past_limit : ℕ → Bool
past_limit n = eqb n 7 || eqb n 8

-- none of the numbers is one of these
unfoldable pub InLimits : List ℕ → Type 0
InLimits [] = Unit {0}
InLimits (n ∷ ns) = T (not (past_limit n)) × InLimits ns

-- half a unit of the field record: 73,050 grains, and 50 micrometres a year, which is 50 grains a quarter-day
abbrev pub half_unit : ℕ
half_unit = 73050

abbrev pub half_speed : ℕ
half_speed = 50

-- 73,050 + 50 x |net quarter-days| grains
abbrev pub field_bound : ℤ → ℕ
field_bound net = half_unit + half_speed * nat_abs net

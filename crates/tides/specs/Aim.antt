-- What a series of tides asks for: the mark's direction, once, and for each row the tide of a Moon and a Sun at a direction. The refusal of a Moon and a Sun is
-- `bodies_number` of Tide.
use Rattle.std.specs.Prelude.{Bool, cond, ◌&&◌, ◌+◌, ◌*◌, eqb, leb}
use Rattle.mark.specs.declared.Vec3.{Vec3}
use Rattle.mark.specs.Mark.{nowhere, squares, length_of, marked, mark_number, sized}
use Rattle.tides.specs.declared.BodyVector.{BodyVector}
use Rattle.refusal.specs.Answered.{Answered}
use Rattle.tides.specs.Direction.{E, units}
use Rattle.tides.specs.Tide.{tide_at, bodies_number}

-- for any mark: its unit vector, and refusal 6 comes with zeros
unfoldable pub aim_of : Vec3 → Answered Vec3
aim_of m = record { number = mark_number m; value = cond (marked m) (units (length_of m) m) nowhere }

-- not too long for a mark's direction, a unit vector after rounding: each component at most E, the sum of the squares at most E² + 344 E. Every accepted
-- mark's is so (`accepted-directed` of AimLaws)
unfoldable pub directed : Vec3 → Bool
directed u = sized E u && leb (squares u) (E * E + 344 * E)

-- an answer for two bodies at the mark's unit vector u: 10, 11, or the tide
unfoldable pub pair_answer : Vec3 → BodyVector → BodyVector → Answered Vec3
pair_answer u v w = record { number = bodies_number v w; value = cond (eqb (bodies_number v w) 0) (tide_at u v w) nowhere }

-- for any three numbers: 6, with no shift, where they are too long for a mark's direction, and then the above
unfoldable pub pair_at : Vec3 → BodyVector → BodyVector → Answered Vec3
pair_at u v w = cond (directed u) (pair_answer u v w) (record { number = 6; value = nowhere })

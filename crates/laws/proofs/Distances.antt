-- Accepted marks and bodies in reach are at a positive distance: their whole lengths divide.
use Prim.Native.Nat.{◌≤◌, ◌<◌}
use native.Mathlib.Omega.{arith}
use lib.Dec.{T}
use Rattle.algebra.proofs.BoolLaws.{holds}
use Rattle.mark.specs.declared.Vec3.{Vec3}
use Rattle.mark.specs.Mark.{length_of, marked}
use Rattle.mark.proofs.MarkLaws.{mark-long}
use Rattle.tides.specs.declared.BodyVector.{BodyVector}
use Rattle.tides.specs.Bodies.{moon, sun, wholes, in_reach}
use Rattle.tides.proofs.TideLaws.{reached}

pub mark-far : (m : Vec3) → T (marked m) → 6300000 ≤ length_of m
mark-far m t = mark-long m (holds (marked m) t)

pub mark-positive : (m : Vec3) → T (marked m) → 0 < length_of m
mark-positive m t = omega (arith, mark-far m t)

pub moon-positive : (v : BodyVector) → T (in_reach moon v) → 0 < length_of (wholes v)
moon-positive v t = omega (arith, reached moon v t)

pub sun-positive : (v : BodyVector) → T (in_reach sun v) → 0 < length_of (wholes v)
sun-positive v t = omega (arith, reached sun v t)

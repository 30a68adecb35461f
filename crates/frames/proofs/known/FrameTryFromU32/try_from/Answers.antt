-- A code that is none of the twelve is unknown.
use Rattle.std.proofs.Common.{refl}
use native.Mathlib.Omega.{arith}
use Rattle.frames.proofs.FrameLaws.{frame-unknown}
use Rattle.frames.proofs.known.FrameTryFromU32.try_from.Goals as goal

pub returns-in_default : goal.returns-in_default
returns-in_default c = (refl, frame-unknown c.args.code (omega arith))

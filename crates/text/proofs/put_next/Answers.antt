-- A space, then the integer.
use native.Mathlib.Omega.{arith}
use Rattle.std.proofs.Common.{[], ◌∷◌}
use Rattle.std.proofs.lemmas.Int.{to_z-of_z}
use Rattle.text.specs.Text.{integer}
use Rattle.text.proofs.TextLaws.{put-none, put-more, put_same}
use Rattle.text.proofs.put_next.Goals as goal

pub returns-clause-out_after : goal.returns-clause-out_after
returns-clause-out_after c =
    let p =
    put_same {out' = c.put_integer.new.out} {at' = c.put_integer.result} integer (to_z-of_z _ _ c.ranges.z)
    (put-more {out' = c.put_bytes-first.new.out} {at' = c.put_bytes-first.result} (32 ∷ [])
    (put-none c.args.out.now c.args.at (omega arith) (omega arith)) (cc) (cc)) (cc) (cc) in
    p.holds

-- `wire::put_first` meets its contract: three integers, each after a space. Assumes nothing.
use native.Mathlib.Omega.{arith}
use borrow.Author.Rules.{rules}
use mir.Facts.{to_z-of_z, to_z_pos}
use mir.Syntax.{w64}
use Rattle.text.specs.Text.{spaced}
use Rattle.text.proofs.TextLaws.{put-none, put_same}
use Rattle.wire.specs.Line.{first_part}
use Rattle.wire.proofs.put_first.Statement.{statement}
use Rattle.wire.proofs.put_first.Tie as tie

returns : tie.Need-returns
unfolding first_part
returns c =
    let p =
    put_same spaced (to_z-of_z c.ranges.epoch)
    (put_same spaced (to_z_pos w64 {n = c.args.tide} (omega arith))
    (put_same spaced (to_z_pos w64 {n = c.args.frame} (omega arith)) (put-none c.args.out.now c.args.at (omega arith) (omega arith))
    c.put_next-f.ensures.0 c.put_next-f.ensures.1) c.put_next-t.ensures.0 c.put_next-t.ensures.1)
    c.put_next.ensures.0 c.put_next.ensures.1 in
    (p.place, p.holds)

pub put_first_spec : {M : Type 1} → statement M
put_first_spec =
    tie.close
    (tie.spec (λ c. search rules) (λ c κs. search rules) (λ c. search rules) (λ c κs. search rules) (λ c κs. search rules) (λ c. search rules) returns)

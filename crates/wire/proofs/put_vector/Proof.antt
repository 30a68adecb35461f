-- `wire::put_vector` meets its contract: three integers, each after a space. Assumes nothing.
use mir.Syntax.{w64}
use native.Mathlib.Omega.{arith}
use borrow.Author.Rules.{rules}
use mir.Facts.{to_z-of_z}
use Rattle.text.specs.Text.{spaced}
use Rattle.text.proofs.TextLaws.{put-none, put_same}
use Rattle.wire.specs.Line.{vector_part}
use Rattle.wire.proofs.put_vector.Statement.{statement}
use Rattle.wire.proofs.put_vector.Tie as tie

returns : tie.Need-returns
unfolding vector_part
returns c =
    let p =
    put_same spaced (to_z-of_z {w = w64} (record { sfits = c.struct_told-3-1.given.1.1.0.1 }))
    (put_same spaced (to_z-of_z {w = w64} (record { sfits = c.struct_told-2-1.given.1.0.1 }))
    (put_same spaced (to_z-of_z {w = w64} (record { sfits = c.struct_told-1.given.0.1 }))
    (put-none c.args.out.now c.args.at (omega arith) (omega arith))
    c.put_next-x.ensures.0 c.put_next-x.ensures.1) c.put_next-y.ensures.0 c.put_next-y.ensures.1)
    c.put_next.ensures.0 c.put_next.ensures.1 in
    (p.place, p.holds)

pub put_vector_spec : {M : Type 1} → statement M
put_vector_spec =
    tie.close (tie.spec (λ c κs. search rules) (λ c κs. search rules) (λ c κs. search rules) (λ c. search rules) returns)

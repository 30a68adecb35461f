-- `wire::put_card` meets its contract: the site, then its numbers. Assumes nothing.
use mir.Syntax.{w64}
use native.Mathlib.Omega.{arith}
use borrow.Author.Rules.{rules}
use mir.Facts.{to_z-of_z}
use Rattle.text.proofs.TextLaws.{put-none, put-more, put_same}
use Rattle.wire.specs.Line.{vector_part, first_part, run_part, card_part}
use Rattle.wire.proofs.put_card.Statement.{statement}
use Rattle.wire.proofs.put_card.Tie as tie

returns : tie.Need-returns
unfolding card_part
returns c =
    let on-site = put-more (run_part c.args.c.site) (put-none c.args.out.now c.args.at (omega arith) (omega arith)) c.put_run-s.ensures.0 c.put_run-s.ensures.1 in
    let on-epoch =
    put_same (first_part c.args.c.frame c.args.c.tide) (to_z-of_z {w = w64} (record { sfits = c.struct_told-1.given.1.1.1.0.1 })) on-site
    c.put_first-e.ensures.0 c.put_first-e.ensures.1 in
    let on-mark = put-more (vector_part c.args.c.mark) on-epoch c.put_vector-m.ensures.0 c.put_vector-m.ensures.1 in
    let on-velocity = put-more (vector_part c.args.c.velocity) on-mark c.put_vector-v.ensures.0 c.put_vector-v.ensures.1 in
    let on-position = put-more (vector_part c.args.c.position) on-velocity c.put_vector-p.ensures.0 c.put_vector-p.ensures.1 in
    let whole = put-more (vector_part c.args.c.solid) on-position c.put_vector.ensures.0 c.put_vector.ensures.1 in
    (whole.place, whole.holds)

pub put_card_spec : {M : Type 1} → statement M
put_card_spec =
    tie.close
    (tie.spec (λ c κs. search rules) (λ c κs. search rules) (λ c κs. search rules) (λ c κs. search rules) (λ c κs. search rules)
    (λ c κs. search rules) (λ c. search rules) returns)

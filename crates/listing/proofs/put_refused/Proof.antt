-- `listing::put_refused` meets its contract: the word, the number, the line feed. Assumes nothing.
use mathlib.Core.Path.{◌∙◌}
use mathlib.Core.List.{[], ◌∷◌}
use native.Mathlib.Omega.{arith}
use borrow.Author.Rules.{rules}
use lib.ListN.{length}
use mir.Facts.{to_z_pos}
use mir.Syntax.{w64}
use Rattle.text.specs.Text.{spaced}
use Rattle.text.proofs.TextLaws.{Put, after_small, put-none, put-more, put_same, put_as}
use Rattle.listing.specs.Line.{refused_word, refused_line}
use Rattle.listing.proofs.LineLaws.{refused-text, refused-most}
use Rattle.listing.proofs.put_refused.Statement.{statement}
use Rattle.listing.proofs.put_refused.Tie as tie

whole : (c : tie.After-put_bytes) → Put c.args.out.now 0 (refused_line c.args.number) c.put_bytes.new.out c.put_bytes.result
unfolding refused_word
whole c =
    put_as (refused-text c.args.number)
    (put-more (10 ∷ [])
    (put_same spaced (to_z_pos w64 {n = c.args.number} (omega arith))
    (put-more refused_word (put-none c.args.out.now 0 (omega arith) (omega arith)) c.put_bytes-word.ensures.0 c.put_bytes-word.ensures.1)
    c.put_next-end.ensures.0 c.put_next-end.ensures.1)
    c.put_bytes.ensures.0 c.put_bytes.ensures.1)

returns : tie.Need-returns
returns c =
    let p = whole c.before.before in
    let n = c.args.number in
    (p.place ∙ after_small 0 (length (refused_line n)) (omega (arith, refused-most n)) ∙ omega arith, p.holds)

pub put_refused_spec : {M : Type 1} → statement M
put_refused_spec =
    tie.close
    (tie.spec (λ c. search rules) (λ c. search rules) (λ c. search rules) (λ c. search rules) (λ c. search rules) returns)

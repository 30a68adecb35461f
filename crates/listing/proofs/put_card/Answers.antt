-- The site, five numbers, the line feed.
use Rattle.std.proofs.Common.{rules, ◌≡◌, ◌∙◌, [], ◌∷◌, pos, length, w64, to_z, of_z}
use native.Mathlib.Omega.{arith}
use mir.Facts.{to_z_pos}
use Rattle.card.specs.declared.Card.{Card}
use Rattle.text.specs.Text.{spaced}
use Rattle.text.proofs.TextLaws.{Put, after_small, put-none, put-more, put_same, put_as}
use Rattle.listing.specs.Line.{card_line}
use Rattle.listing.proofs.LineLaws.{card-text, card-most}
use Rattle.listing.proofs.put_card.Goals as goal

-- what stands in the buffer after the line feed
whole : (c : goal.After-slice_known-8-1) → Put c.args.out.now 0 (card_line c.args.c) c.put_bytes.new.out c.put_bytes.result
whole c =
    let k : Card = c.args.c in
    let f : to_z w64 (of_z w64 (pos k.frame)) ≡ pos k.frame = to_z_pos w64 {n = k.frame} (search rules) in
    let e : to_z w64 (of_z w64 k.epoch) ≡ k.epoch = search rules in
    let x : to_z w64 (of_z w64 k.position.x) ≡ k.position.x = search rules in
    let y : to_z w64 (of_z w64 k.position.y) ≡ k.position.y = search rules in
    let z : to_z w64 (of_z w64 k.position.z) ≡ k.position.z = search rules in
    let on-site = put-more k.site (put-none c.args.out.now 0 (omega arith) (omega arith)) c.put_bytes-s.ensures.value c.put_bytes-s.ensures.out_after in
    let on_one = put_same spaced f on-site c.put_next-f.ensures.value c.put_next-f.ensures.out_after in
    let on-two = put_same spaced e on_one c.put_next-e.ensures.value c.put_next-e.ensures.out_after in
    let on-three = put_same spaced x on-two c.put_next-x.ensures.value c.put_next-x.ensures.out_after in
    let on-four = put_same spaced y on-three c.put_next-y.ensures.value c.put_next-y.ensures.out_after in
    let on-five = put_same spaced z on-four c.put_next-z.ensures.value c.put_next-z.ensures.out_after in
    put_as (card-text k) (put-more (10 ∷ []) on-five c.put_bytes.ensures.value c.put_bytes.ensures.out_after)

pub returns-clause-value : goal.returns-clause-value
returns-clause-value c =
    let n : length c.args.c.site ≡ 9 = search rules in
    let m = card-most c.args.c (omega (arith, n)) in
    (whole c).place ∙ after_small 0 (length (card_line c.args.c)) (omega (arith, m)) ∙ omega arith

pub returns-clause-out_after : goal.returns-clause-out_after
returns-clause-out_after c = (whole c).holds

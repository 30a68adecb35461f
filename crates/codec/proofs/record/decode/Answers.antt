-- What a record holds, a field at a time.
use Rattle.std.proofs.Common.{◌≡◌, ◌∙◌, ℕ, ℤ, List, take, get_or, w64, to_z, of_z}
use native.Mathlib.Omega.{arith}
use Rattle.algebra.proofs.Machine.{answered}
use Rattle.octets.specs.Octets.{signed_at}
use Rattle.mark.specs.declared.Vec3.{Vec3}
use Rattle.layout.specs.Layout.{vector_at}
use Rattle.layout.proofs.LayoutLaws.{site-long}
use Rattle.card.specs.declared.Card.{Card}
use Rattle.codec.specs.Codec.{decode}
use Rattle.codec.proofs.record.decode.Goals as goal

whole : (s site : List ℕ) (e : ℤ) (a b c d : Vec3) → site ≡ take 9 s → e ≡ signed_at s 12 4 → a ≡ vector_at s 16 4 → b ≡ vector_at s 28 4 → c ≡ vector_at s 40 8 → d ≡ vector_at s 64 8
    → ◌≡◌ {A = Card} (record { site = site; frame = get_or s 9 0; tide = get_or s 10 0; epoch = e; mark = a; velocity = b; position = c; solid = d }) (decode s)
unfolding decode
whole s site e a b c d h k p q r u = cc

pub returns : goal.returns
returns c =
    whole c.args.s.now c.site_of.result (to_z w64 (of_z w64 c.signed_at.result)) c.vector_at.result c.vector_at-2.result c.vector_at-3.result c.vector_at-4.result
    (c.site_of.ensures ∙ site-long _ (omega arith))
    (answered c.signed_at.result c.signed_at.type_inv ∙ c.signed_at.ensures)
    c.vector_at.ensures c.vector_at-2.ensures c.vector_at-3.ensures c.vector_at-4.ensures

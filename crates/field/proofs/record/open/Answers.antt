-- What a field record holds, a field at a time.
use Rattle.std.proofs.Common.{◌≡◌, ◌∙◌, ℕ, ℤ, List, take, get_or, w64, to_z, of_z}
use native.Mathlib.Omega.{arith}
use Rattle.algebra.proofs.Machine.{answered}
use Rattle.octets.specs.Octets.{signed_at}
use Rattle.mark.specs.declared.Vec3.{Vec3}
use Rattle.layout.specs.Layout.{vector_at}
use Rattle.layout.proofs.LayoutLaws.{site-long}
use Rattle.field.specs.declared.record.Opened.{Opened}
use Rattle.field.specs.Field.{opened_of}
use Rattle.field.proofs.record.open.Goals as goal

whole : (s site : List ℕ) (e : ℤ) (a b c : Vec3) → site ≡ take 9 s → e ≡ signed_at s 12 4 → a ≡ vector_at s 16 4 → b ≡ vector_at s 28 4 → c ≡ vector_at s 40 2
    → ◌≡◌ {A = Opened} (record { site = site; frame = get_or s 9 0; tide = get_or s 10 0; epoch = e; mark = a; offset = b; speed = c }) (opened_of s)
unfolding opened_of
whole s site e a b c h k p q r = cc

pub returns : goal.returns
returns c =
    whole c.args.s.now c.site_of.result (to_z w64 (of_z w64 c.signed_at.result)) c.vector_at.result c.vector_at-2.result c.vector_at-3.result
    (c.site_of.ensures ∙ site-long _ (omega arith))
    (answered c.signed_at.result c.signed_at.type_inv ∙ c.signed_at.ensures)
    c.vector_at.ensures c.vector_at-2.ensures c.vector_at-3.ensures

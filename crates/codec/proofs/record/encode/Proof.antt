-- `codec::record::encode` meets its contract: the fields put one after the other are the card's bytes. Assumes nothing.
use mathlib.Core.Path.{◌≡◌, ap, ◌∙◌}
use mathlib.Core.List.{List}
use Prim.Native.Nat.{ℕ}
use borrow.Author.Rules.{rules}
use lib.ListN.{length}
use lib.IntN.{ℤ}
use Rattle.algebra.proofs.Machine.{answered}
use Rattle.octets.specs.Octets.{bytes_of, splice}
use Rattle.layout.specs.Layout.{spliced, headed}
use Rattle.card.specs.declared.Card.{Card}
use Rattle.codec.specs.Codec.{card_length, encode}
use Rattle.codec.proofs.CodecLaws.{put-card}
use Rattle.codec.proofs.record.encode.Statement.{statement}
use Rattle.codec.proofs.record.encode.Tie as tie

all : (s a b m v p t : List ℕ) (c : Card) → length s ≡ card_length → length c.site ≡ 9
    → a ≡ headed s c.site c.frame c.tide
    → b ≡ splice a 12 (bytes_of 4 c.epoch)
    → m ≡ spliced b 16 4 c.mark
    → v ≡ spliced m 28 4 c.velocity
    → p ≡ spliced v 40 8 c.position
    → t ≡ spliced p 64 8 c.solid
    → t ≡ encode c
all s a b m v p t c l n e₁ e₂ e₃ e₄ e₅ e₆ = cc (put-card s c l n)

returns : tie.Need-returns
returns c =
    let told = c.struct_told-1.given in
    all c.args.out.now c.put_head.new.out c.put_signed.new.out c.put_vector.new.out c.put_vector-2.new.out c.put_vector-3.new.out
    c.put_vector-4.new.out c.args.c c.requires told.0.1.0.1
    c.put_head.ensures
    (c.put_signed.ensures ∙ ap (λ (z : ℤ). splice c.put_head.new.out 12 (bytes_of 4 z)) (answered c.args.c.epoch told.1.1.1.0.1))
    c.put_vector.ensures
    c.put_vector-2.ensures
    c.put_vector-3.ensures
    c.put_vector-4.ensures

pub encode_spec : {M : Type 1} → statement M
encode_spec =
    tie.close
    (tie.spec (λ c κs. search rules) (λ c κs. search rules) (λ c κs. search rules) (λ c κs. search rules) (λ c κs. search rules)
    (λ c κs. search rules) (λ c. search rules) returns)

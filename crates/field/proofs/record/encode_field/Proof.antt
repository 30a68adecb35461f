-- `field::record::encode_field` meets its contract: the fields put one after the other are the record's bytes. Assumes nothing.
use mathlib.Core.Path.{◌≡◌, ap, ◌∙◌}
use mathlib.Core.List.{List, [], ◌∷◌}
use Prim.Native.Nat.{ℕ}
use borrow.Author.Rules.{rules}
use lib.ListN.{length}
use lib.IntN.{ℤ}
use Rattle.algebra.proofs.Machine.{answered}
use Rattle.octets.specs.Octets.{bytes_of, splice}
use Rattle.mark.specs.declared.Vec3.{Vec3}
use Rattle.layout.specs.Layout.{spliced, headed}
use Rattle.card.specs.declared.Card.{Card}
use Rattle.card.specs.Checks.{from_mark}
use Rattle.field.specs.Field.{field_length, rounded_by, offset_of, speed_of, field_of}
use Rattle.field.proofs.PackLaws.{taken, field-packed, put-field}
use Rattle.field.proofs.record.encode_field.Statement.{statement}
use Rattle.field.proofs.record.encode_field.Tie as tie

offset-is : (c : Card) (d o : Vec3) → d ≡ from_mark c.mark c.position → o ≡ rounded_by 146100 d → o ≡ offset_of c
unfolding offset_of
offset-is c d o e f = f ∙ ap (rounded_by 146100) e

speed-is : (c : Card) (v : Vec3) → v ≡ rounded_by 100 c.velocity → v ≡ speed_of c
unfolding speed_of
speed-is c v e = e

all : (s a b m o v t : List ℕ) (c : Card) (offset speed : Vec3) → length s ≡ field_length → length c.site ≡ 9 → offset ≡ offset_of c → speed ≡ speed_of c
    → a ≡ headed s c.site c.frame c.tide
    → b ≡ splice a 12 (bytes_of 4 c.epoch)
    → m ≡ spliced b 16 4 c.mark
    → o ≡ spliced m 28 4 offset
    → v ≡ spliced o 40 2 speed
    → t ≡ splice v 46 (0 ∷ 0 ∷ [])
    → t ≡ field_of c
unfolding taken
all s a b m o v t c offset speed l n e f e₁ e₂ e₃ e₄ e₅ e₆ = cc (put-field s (taken c) l n, field-packed c)

returns : tie.Need-returns
returns c =
    let told = c.struct_told-1.given in
    let card = c.args.c in
    all c.args.out.now c.put_head.new.out c.put_signed.new.out c.put_vector.new.out c.put_vector-2.new.out c.put_vector-3.new.out
    c.put_bytes.new.out card c.rounded-offset.result c.rounded-speed.result c.requires.0 told.0.1.0.1
    (offset-is card c.args.away c.rounded-offset.result c.requires.1 c.rounded-offset.ensures)
    (speed-is card c.rounded-speed.result c.rounded-speed.ensures)
    c.put_head.ensures
    (c.put_signed.ensures ∙ ap (λ (z : ℤ). splice c.put_head.new.out 12 (bytes_of 4 z)) (answered card.epoch told.1.1.1.0.1))
    c.put_vector.ensures
    c.put_vector-2.ensures
    c.put_vector-3.ensures
    c.put_bytes.ensures

pub encode_field_spec : {M : Type 1} → statement M
encode_field_spec =
    tie.close
    (tie.spec (λ c κs. search rules) (λ c κs. search rules) (λ c κs. search rules) (λ c κs. search rules) (λ c κs. search rules)
    (λ c κs. search rules) (λ c κs. search rules) (λ c. search rules) (λ c κs. search rules) (λ c. search rules) returns)

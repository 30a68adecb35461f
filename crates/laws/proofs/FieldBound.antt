-- What the field bound rests on: two alike cards that begin close, under one list of which each call is accepted by both or refused by both, end close.
use mathlib.Core.Path.{◌≡◌, sym, ◌∙◌, subst}
use mathlib.Core.Bool.{false}
use mathlib.Core.List.{List}
use Prim.Native.Nat.{ℕ, ◌+◌, ◌*◌}
use lib.Dec.{eqb}
use lib.IntN.{nat_abs}
use Rattle.mark.specs.Ranges.{Within}
use Rattle.mark.specs.Mark.{minus}
use Rattle.head.specs.State.{state_of}
use Rattle.card.specs.declared.Card.{Card}
use Rattle.card.specs.Checks.{Valid}
use Rattle.card.specs.Calls.{Call}
use Rattle.card.proofs.CheckLaws.{valid-passed}
use Rattle.card.proofs.ValidLaws.{solid-none}
use Rattle.laws.specs.Lists.{run, net, Accepted}
use Rattle.laws.specs.TwoCards.{Alike, Agree, between, parting, half_unit, half_speed, field_bound}
use Rattle.laws.proofs.VectorLaws.{later-within}
use Rattle.laws.proofs.TwoCardLaws.{difference-agreed, accepted-same}

-- any bounds: grains a at first and grains a quarter-day b end within a + b x |net quarter-days|, each coordinate
pub stays-close-agreed :
    (a b : ℕ) (c c' : Card) (ks : List Call)
    → Alike c c'
    → Agree c c' ks
    → Within a (between c c')
    → Within b (parting c c')
    → Within (a + b * nat_abs (net c ks)) (between (run c ks) (run c' ks))
stays-close-agreed a b c c' ks s e p v =
    subst (Within (a + b * nat_abs (net c ks))) (sym (difference-agreed c c' ks s e)) (later-within a b (net c ks) (between c c') (parting c c') p v)

-- the same of two cards that both accept the list
pub stays-close :
    (a b : ℕ) (c c' : Card) (ks : List Call)
    → Alike c c'
    → Accepted c ks
    → Accepted c' ks
    → Within a (minus c.position c'.position)
    → Within b (minus c.velocity c'.velocity)
    → Within (a + b * nat_abs (net c ks)) (minus (run c ks).position (run c' ks).position)
stays-close a b c c' ks s h h' p v = stays-close-agreed a b c c' ks s (accepted-same c c' ks h h') p v

-- two valid cards with the same mark, frame, epoch and byte 10, without solid tide: no vector is stored in either
pub alike-unstored :
    (c c' : Card)
    → Valid c
    → Valid c'
    → c.mark ≡ c'.mark
    → c.frame ≡ c'.frame
    → c.epoch ≡ c'.epoch
    → c.tide ≡ c'.tide
    → eqb (state_of c.tide) 2 ≡ false
    → Alike c c'
alike-unstored c c' v v' m f e t n =
    let z = solid-none c.tide c.solid (valid-passed c v).tide n in
    let z' = solid-none c'.tide c'.solid (valid-passed c' v').tide (subst (λ (b : ℕ). eqb (state_of b) 2 ≡ false) t n) in
    let same : c.solid ≡ c'.solid = z ∙ sym z' in
    record { mark = m; frame = f; epoch = e; tides = λ i. record { byte = t i; stored = same i } }

-- the bound of the field edition: half a unit of the record's position at first, and half a unit of its velocity
pub field-bound :
    (c c' : Card) (ks : List Call)
    → Alike c c'
    → Accepted c ks
    → Accepted c' ks
    → Within half_unit (minus c.position c'.position)
    → Within half_speed (minus c.velocity c'.velocity)
    → Within (field_bound (net c ks)) (minus (run c ks).position (run c' ks).position)
field-bound = stays-close half_unit half_speed

-- The list theorem: any list of calls on any card, refused ones too, is given by one formula.
use mathlib.Core.Path.{◌≡◌, refl, sym, ◌∙◌, ap, ap₂}
use mathlib.Core.List.{List, [], ◌∷◌}
use Prim.Native.Nat.{ℕ}
use lib.IntN.{pos, ◌+ℤ◌}
use Rattle.card.specs.declared.Card.{Card}
use Rattle.card.specs.Calls.{Call, step}
use Rattle.codec.specs.Codec.{encode}
use Rattle.laws.specs.Lists.{run, net, gain, Accepted, total, Still, Tides, tides_of, frame_from, tides_from, last_frame, last_tides, formula}
use Rattle.laws.specs.Core.{core, later, dressed}
use Rattle.laws.proofs.CallLaws.{accepted-gain, still-gain, frame_step, tides-step}
use Rattle.laws.proofs.CoreLaws.{dressed-core, formula-core, later-nothing, later-twice, core-step}

-- a list moves the core by its net move
pub core-run : (c : Card) (ks : List Call) → core (run c ks) ≡ later (net c ks) (core c)
unfolding run net
core-run c [] = sym (later-nothing (core c))
core-run c (k ∷ ks) =
    let n = (step c k).card in
    core-run n ks ∙ ap (later (net n ks)) (core-step c k) ∙ later-twice (gain c k) (net n ks) (core c)

-- the frame and the tides at the end are those of the last accepted calls
pub run-frame : (c : Card) (ks : List Call) → (run c ks).frame ≡ last_frame c ks
unfolding run frame_from
run-frame c [] = refl
run-frame c (k ∷ ks) =
    let n = (step c k).card in
    run-frame n ks ∙ ap (λ (f : ℕ). frame_from f n ks) (frame_step c k)

pub run-tides : (c : Card) (ks : List Call) → tides_of (run c ks) ≡ last_tides c ks
unfolding run tides_from
run-tides c [] = refl
run-tides c (k ∷ ks) =
    let n = (step c k).card in
    run-tides n ks ∙ ap (λ (t : Tides). tides_from t n ks) (tides-step c k)

-- the formula for any list. It asks nothing of the card: on a card that is not valid every call is refused
pub one-formula : (c : Card) (ks : List Call) → run c ks ≡ formula c (net c ks) (last_frame c ks) (last_tides c ks)
one-formula c ks =
    sym (dressed-core (run c ks))
    ∙ (λ i. dressed (core-run c ks i) (run-frame c ks i) (run-tides c ks i))
    ∙ sym (formula-core c (net c ks) (last_frame c ks) (last_tides c ks))

-- the same, by the frame and the tides of the card at the end
pub end-formula : (c : Card) (ks : List Call) → run c ks ≡ formula c (net c ks) (run c ks).frame (tides_of (run c ks))
end-formula c ks = one-formula c ks ∙ sym λ i. formula c (net c ks) (run-frame c ks i) (run-tides c ks i)

-- two lists that agree in their net move, their last frame and the tides in force at the end, end in equal cards
pub same_end :
    (c : Card) (ks ls : List Call)
    → net c ks ≡ net c ls
    → last_frame c ks ≡ last_frame c ls
    → last_tides c ks ≡ last_tides c ls
    → run c ks ≡ run c ls
same_end c ks ls n f t =
    one-formula c ks ∙ (λ i. formula c (n i) (f i) (t i)) ∙ sym (one-formula c ls)

-- and in equal bytes
pub same_bytes :
    (c : Card) (ks ls : List Call)
    → net c ks ≡ net c ls
    → last_frame c ks ≡ last_frame c ls
    → last_tides c ks ≡ last_tides c ls
    → encode (run c ks) ≡ encode (run c ls)
same_bytes c ks ls n f t = ap encode (same_end c ks ls n f t)

-- where every call is accepted the net move is the sum of all moves
pub net-total : (c : Card) (ks : List Call) → Accepted c ks → net c ks ≡ total ks
unfolding net total Accepted
net-total c [] a = refl
net-total c (k ∷ ks) a = ap₂ ◌+ℤ◌ (accepted-gain c k a.0) (net-total (step c k).card ks a.1)

-- a list of frame changes and tides moves nothing, refused ones included
pub net-still : (c : Card) (ks : List Call) → Still ks → net c ks ≡ pos 0
unfolding net Still
net-still c [] h = refl
net-still c (k ∷ ks) h = ap₂ ◌+ℤ◌ (still-gain c k h.0) (net-still (step c k).card ks h.1)

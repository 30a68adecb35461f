-- A card that was stored under another rule for halves is read as it is: to read, to check and to write a card takes no `near`.
use mathlib.Core.Path.{◌≡◌, refl}
use mathlib.Core.Bool.{Bool, not, ◌&&◌, ◌||◌}
use mathlib.Core.List.{List, [], ◌∷◌}
use Prim.Native.Nat.{ℕ, ◌+◌, ◌*◌}
use lib.Dec.{leb, ltb, eqb}
use lib.ListN.{length, get_or}
use lib.IntN.{pos, neg_ℤ, nat_abs}
use Rattle.refusal.specs.Refusal.{Table, first}
use Rattle.numbers.specs.Root.{root}
use Rattle.mark.specs.declared.Vec3.{Vec3}
use Rattle.mark.specs.Mark.{vec, nowhere, metre, minus, scaled, squares, length_of, marked, sized}
use Rattle.frames.specs.Frame.{rows, known_frame}
use Rattle.head.specs.State.{state_of, state_fits}
use Rattle.head.specs.Head.{site_shape, epoch_fits}
use Rattle.tides.specs.Permanent.{permanent}
use Rattle.card.specs.declared.Card.{Card}
use Rattle.card.specs.Checks.{is_zero, tide_fits, velocity_fits, from_mark, position_fits, vector_fits, checks, card_number}
use Rattle.card.specs.Calls.{mean_off, step}
use Rattle.card.specs.Sample.{at}
use Rattle.codec.specs.Codec.{card_length, encode, decode, read_number, read_card}
use Rattle.codec.proofs.CodecLaws.{read-encode}
use Rattle.laws.proofs.Example.{checking, marking, computing}

-- ---- of every record: what it reads as is made of its bytes and of ranges. Computed with `near` shut

-- each of three numbers is at most n in size
abbrev inside : ℕ → Vec3 → Bool
inside n v = leb (nat_abs v.x) n && leb (nat_abs v.y) n && leb (nat_abs v.z) n

-- a card's refusals with every check written out, in grains, metres, micrometres a year and quarter-days; `zeros` says that the record's zero byte is zero
abbrev pub by_ranges : Bool → Card → Table
by_ranges zeros c =
    let length² = nat_abs c.mark.x * nat_abs c.mark.x + nat_abs c.mark.y * nat_abs c.mark.y + nat_abs c.mark.z * nat_abs c.mark.z in
    (2, not (site_shape c.site))
    ∷ (3, not (ltb c.frame (length rows)))
    ∷ (4, not (zeros && (leb c.tide 2 && (eqb c.tide 2 || inside 0 c.solid))))
    ∷ (5, not (leb (nat_abs c.epoch) 146100))
    ∷ (6, not (leb 6300000 (root length²) && leb (root length²) 6400000))
    ∷ (7, not (inside 500000 c.velocity))
    ∷ (8, not (inside (1000 * metre) (minus c.position (scaled (pos metre) c.mark))))
    ∷ (9, not (inside metre c.solid))
    ∷ []

pub read-by-ranges : (s : List ℕ) → read_number s ≡ first ((1, not (eqb (length s) card_length)) ∷ by_ranges (eqb (get_or s 11 0) 0) (decode s))
unfolding read_number checks sized is_zero tide_fits state_of state_fits epoch_fits velocity_fits from_mark position_fits vector_fits known_frame marked length_of squares
read-by-ranges s = refl

-- ---- one card worked through

-- It was made mean-tide when halves went away from zero. The permanent shift at its mark was then (2,172,971, 0, -47,304,199) grains, and is
-- (2,172,968, 0, -47,304,200) now: no shift that was found has moved more.
abbrev pub stored_mark : Vec3
stored_mark = vec (pos 4685551) (pos 0) (pos 4211622)

-- mean-tide or not, at that mark: 1,461,000,000 grains a metre, and what is added
abbrev stored_at : ℕ → Vec3 → Card
stored_at byte p =
    record { site = (at (pos 0)).site; frame = 0; tide = byte; epoch = pos 0; mark = stored_mark; velocity = nowhere; position = p; solid = nowhere }

abbrev pub stored : Card
stored = stored_at 1 (vec (pos 6845590013172971) (pos 0) (pos 6153179694695801))

-- computed with `near` shut
pub stored-valid : card_number stored ≡ 0
unfolding card_number checking marking
stored-valid = refl

pub stored-read : read_card (encode stored) ≡ record { number = 0; card = stored }
stored-read = read-encode stored stored-valid

-- what mean on adds there now
pub stored-shift : permanent stored_mark ≡ vec (pos 2172968) (pos 0) (neg_ℤ (pos 47304200))
unfolding computing
stored-shift = refl

-- mean off takes today's shift away: what is left is the difference of the two, here the 3 grains in x and 1 in z by which the mark's own place is missed
pub stored-off : step stored mean_off ≡ record { number = 0; card = stored_at 0 (vec (pos 6845590011000003) (pos 0) (pos 6153179742000001)) }
unfolding card_number computing
stored-off = refl

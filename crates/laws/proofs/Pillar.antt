-- Two instruments on one pillar, with different velocities, through a list with all six calls that both accept: the tie, worked out.
use mathlib.Core.Path.{◌≡◌, refl}
use mathlib.Core.List.{List, [], ◌∷◌}
use Prim.Native.Nat.{ℕ}
use lib.IntN.{ℤ, pos, neg_ℤ}
use Rattle.mark.specs.declared.Vec3.{Vec3}
use Rattle.mark.specs.Mark.{vec, nowhere}
use Rattle.card.specs.declared.Card.{Card}
use Rattle.card.specs.Checks.{card_number, Valid}
use Rattle.card.specs.Calls.{Call, move, frame, mean_on, mean_off, solid_on, solid_off}
use Rattle.laws.specs.Lists.{run, numbers, Accepted, Still, gain, net}
use Rattle.laws.specs.TwoCards.{Alike, between, InLimits}
use Rattle.laws.proofs.Ties.{tie, tie-still, tie-refused}
use Rattle.laws.proofs.Example.{computing, example, moon_ahead, sun_aside, calls, ◌⨾◌}

-- 90001S00n at the example's mark, in ITRF2008, tide-free: the digit n as a byte, epoch, velocity in micrometres a year, position in grains
abbrev on_pillar : ℕ → ℤ → Vec3 → Vec3 → Card
on_pillar n e v p =
    record {
      site = 57 ∷ 48 ∷ 48 ∷ 48 ∷ 49 ∷ 83 ∷ 48 ∷ 48 ∷ n ∷ [];
      frame = 0;
      tide = 0;
      epoch = e;
      mark = example.mark;
      velocity = v;
      position = p;
      solid = nowhere;
    }

-- 3.0000, 0.2500 and -0.1000 m from the mark
abbrev pub telescope : Card
telescope = on_pillar 49 (pos 0) (vec (pos 20000) (pos 15000) (pos 3000)) (vec (pos 9318462540000000) (pos 365250000) (neg_ℤ (pos 146100000)))

-- 1.2000, -0.6500 and 0.8000 m from it
abbrev pub antenna : Card
antenna = on_pillar 50 (pos 0) (vec (pos 19900) (pos 15200) (pos 3050)) (vec (pos 9318459910200000) (neg_ℤ (pos 949650000)) (pos 1168800000))

pub pillar-alike : Alike telescope antenna
pillar-alike = record { mark = refl; frame = refl; epoch = refl; tides = refl }

-- ITRF2000; mean on; five years on; mean off; solid on; ITRF93 under the tide; solid off; five years on
abbrev pub surveys : List Call
surveys = frame 2 ∷ mean_on ∷ move (pos 7305) ∷ mean_off ∷ solid_on moon_ahead sun_aside ∷ frame 6 ∷ solid_off ∷ move (pos 7305) ∷ []

pub telescope-accepted : Accepted telescope surveys
unfolding Accepted computing
telescope-accepted = refl ⨾ refl ⨾ refl ⨾ refl ⨾ refl ⨾ refl ⨾ refl ⨾ refl ⨾ tt

pub antenna-accepted : Accepted antenna surveys
unfolding Accepted computing
antenna-accepted = refl ⨾ refl ⨾ refl ⨾ refl ⨾ refl ⨾ refl ⨾ refl ⨾ refl ⨾ tt

-- 1.8 m, 0.9 m and -0.9 m apart at first; ten years of 100, -200 and -50 micrometres a year are 1.0, -2.0 and -0.5 mm
abbrev pub first : Vec3
first = vec (pos 2629800000) (pos 1314900000) (neg_ℤ (pos 1314900000))

abbrev pub last : Vec3
last = vec (pos 2631261000) (pos 1311978000) (neg_ℤ (pos 1315630500))

pub pillar-first : between telescope antenna ≡ first
unfolding computing
pillar-first = refl

-- by the calls themselves
pub pillar-last : between (run telescope surveys) (run antenna surveys) ≡ last
unfolding run computing
pillar-last = refl

-- and by the rule
pub pillar-tie : between (run telescope surveys) (run antenna surveys) ≡ last
unfolding net gain computing
pillar-tie = tie telescope antenna surveys pillar-alike telescope-accepted antenna-accepted

-- ---- the same without the moves

abbrev pub quiet : List Call
quiet = frame 2 ∷ mean_on ∷ mean_off ∷ solid_on moon_ahead sun_aside ∷ frame 6 ∷ solid_off ∷ []

pub quiet-accepted : Accepted telescope quiet × Accepted antenna quiet
unfolding Accepted computing
quiet-accepted = (refl ⨾ refl ⨾ refl ⨾ refl ⨾ refl ⨾ refl ⨾ tt, refl ⨾ refl ⨾ refl ⨾ refl ⨾ refl ⨾ refl ⨾ tt)

pub pillar-still : between (run telescope quiet) (run antenna quiet) ≡ first
unfolding Still computing
pillar-still =
    tie-still telescope antenna quiet pillar-alike quiet-accepted.0 quiet-accepted.1 (tt ⨾ tt ⨾ tt ⨾ tt ⨾ tt ⨾ tt ⨾ tt)

-- ---- refused calls among them: the example's list, of which both refuse one call each with 12, 13, 5 and 3

pub pillar-valid : Valid telescope × Valid antenna
unfolding Valid card_number computing
pillar-valid = (tt, tt)

pub pillar-limits : InLimits (numbers telescope calls) × InLimits (numbers antenna calls)
unfolding numbers InLimits computing
pillar-limits =
    (tt ⨾ tt ⨾ tt ⨾ tt ⨾ tt ⨾ tt ⨾ tt ⨾ tt ⨾ tt ⨾ tt ⨾ tt ⨾ tt ⨾ tt, tt ⨾ tt ⨾ tt ⨾ tt ⨾ tt ⨾ tt ⨾ tt ⨾ tt ⨾ tt ⨾ tt ⨾ tt ⨾ tt ⨾ tt)

-- its one year parts them by 0.1, -0.2 and -0.05 mm
pub pillar-refused : between (run telescope calls) (run antenna calls) ≡ vec (pos 2629946100) (pos 1314607800) (neg_ℤ (pos 1314973050))
unfolding net gain computing
pillar-refused =
    tie-refused telescope antenna calls pillar-alike pillar-valid pillar-limits

-- ---- why the epochs must be the same

-- the antenna's card a year later than the telescope's
abbrev pub ahead : Card
ahead = on_pillar 50 (pos 1461) antenna.velocity antenna.position

-- ITRF2000 alone takes B x 1,461 from the vector, with B = (610, 100, -1,800)
pub ahead_apart :
    between (run telescope (frame 2 ∷ [])) (run ahead (frame 2 ∷ []))
    ≡ vec (pos 2628908790) (pos 1314753900) (neg_ℤ (pos 1312270200))
unfolding run computing
ahead_apart = refl

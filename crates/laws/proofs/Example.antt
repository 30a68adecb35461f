-- The theorems are not empty: a valid card, and a list of calls on it of which some are accepted and some refused.
use mathlib.Core.Path.{◌≡◌, refl}
use mathlib.Core.Bool.{Bool, true, false, cond}
use mathlib.Core.List.{List, [], ◌∷◌, ◌++◌}
use Prim.Native.Nat.{ℕ, ◌+◌}
use lib.Dec.{eqb}
use lib.IntN.{pos, neg_ℤ}
use lib.Ieee.{of_bits, binary64}
use Rattle.refusal.specs.Refusal.{first}
use Rattle.numbers.specs.Near.{nearest, near}
use Rattle.numbers.specs.Root.{refine, root_in, root}
use Rattle.numbers.specs.Whole.{whole_of}
use Rattle.mark.specs.declared.Vec3.{Vec3}
use Rattle.mark.specs.Mark.{vec, nowhere, squares, length_of, marked, plus, sized, minus, scaled}
use Rattle.frames.specs.Frame.{known_frame, row_of, turned, linear, offset, drift, frame_a, frame_b, frame_at, frame_shift, frame_gain}
use Rattle.tides.specs.Direction.{times, unit, legendre}
use Rattle.tides.specs.Permanent.{s2, latitude, small, radial, north, down, across, along, permanent_of, permanent}
use Rattle.tides.specs.declared.Body.{Body}
use Rattle.tides.specs.declared.Body.TheVariants.{Moon, Sun}
use Rattle.tides.specs.Bodies.{wholes, finite, in_reach, paired, moon_of, sun_of}
use Rattle.tides.specs.Tide.{nearness, cosine, standing, cube, component, displaced, strength, height, love, shida, up_share, side_share, upward, sideways, degree_two, fourth, strength_three, height_three, slope_three, up_share_three, side_share_three, upward_three, sideways_three, degree_three, moon_part, sun_part, tide_at, tide}
use Rattle.head.specs.State.{state_of, with_state, state_fits}
use Rattle.head.specs.Head.{digit, shape_at, shape_from, site_shape, epoch_fits}
use Rattle.card.specs.declared.Card.{Card}
use Rattle.card.specs.Checks.{is_zero, tide_fits, velocity_fits, from_mark, position_fits, vector_fits, checks, card_number, Valid}
use Rattle.card.specs.Calls.{Call, move, frame, mean_on, mean_off, solid_on, solid_off, moved, reframed, next, own, call_number, settle, step}
use Rattle.card.specs.Sample.{at}
use Rattle.field.specs.Field.{rounded_by, offset_of, speed_of, expanded_of}
use Rattle.field.proofs.PackLaws.{taken}
use Rattle.laws.specs.Lists.{run, numbers, Accepted, gain, net}

-- all that a run computes with: to unfold one of these names is to unfold what its line names
unfoldable pub checking : ℕ
unfolding first checks sized digit shape_at shape_from site_shape is_zero tide_fits state_of with_state state_fits epoch_fits velocity_fits from_mark position_fits vector_fits
checking = 0

unfoldable pub marking : ℕ
unfolding known_frame marked length_of squares root root_in refine plus minus scaled
marking = 0

unfoldable shifting : ℕ
unfolding nearest near times unit s2 legendre latitude small radial north down across along permanent_of permanent row_of turned linear offset drift frame_a frame_b frame_at frame_shift frame_gain
shifting = 0

unfoldable tiding : ℕ
unfolding of_bits whole_of wholes finite in_reach paired moon_of sun_of nearness cosine standing cube component displaced strength height love shida up_share side_share upward sideways degree_two fourth strength_three height_three slope_three up_share_three side_share_three upward_three sideways_three degree_three moon_part sun_part tide_at tide
tiding = 0

unfoldable pub computing : ℕ
unfolding checking marking shifting tiding moved reframed next own call_number settle step
computing = 0

-- 90001M001 in ITRF2008 at 2000.0, at its mark
abbrev pub example : Card
example = at (pos 0)

-- the Moon and the Sun at right angles, at their reference distances: 384,400,000 m in x and 149,597,870 km in y, as doubles
abbrev pub moon_ahead : Body
moon_ahead = Moon (record { x = of_bits binary64 0x41b6_e97a_8000_0000; y = of_bits binary64 0; z = of_bits binary64 0 })

abbrev pub sun_aside : Body
sun_aside = Sun (record { x = of_bits binary64 0; y = of_bits binary64 0x41a1_d55d_5c00_0000; z = of_bits binary64 0 })

-- a year on; mean on; mean on again (12); ITRF2005; mean off; solid on
abbrev pub until_tide : List Call
until_tide = move (pos 1461) ∷ mean_on ∷ mean_on ∷ frame 1 ∷ mean_off ∷ solid_on moon_ahead sun_aside ∷ []

-- ITRF93 under the tide; ITRF2000 from there; a move under it (13); solid off; 146,100 more (5); frame 12 (3)
abbrev pub after_tide : List Call
after_tide = frame 6 ∷ frame 2 ∷ move (pos 1) ∷ solid_off ∷ move (pos 146100) ∷ frame 12 ∷ []

abbrev pub calls : List Call
calls = until_tide ++ after_tide

pub example-valid : Valid example
unfolding Valid card_number computing
example-valid = tt

pub example-numbers : numbers example calls ≡ 0 ∷ 0 ∷ 12 ∷ 0 ∷ 0 ∷ 0 ∷ 0 ∷ 0 ∷ 13 ∷ 0 ∷ 5 ∷ 3 ∷ []
unfolding numbers computing
example-numbers = refl

pub example-net : net example calls ≡ pos 1461
unfolding net gain computing
example-net = refl

-- the example a year on in frame g: its velocity, its position, byte 10 and the stored tide
abbrev later_in : ℕ → ℕ → Vec3 → Vec3 → Vec3 → Card
later_in g byte v p t =
    record { site = example.site; frame = g; tide = byte; epoch = pos 1461; mark = example.mark; velocity = v; position = p; solid = t }

-- a year of 20,000 micrometres is 29,220,000 grains; ITRF2005 adds 5,837,351 + 300 x 1,461 in x; the tide is 247,816,250 in x, 2,536,735 of it of degree three
pub example-tided :
    run example until_tide
    ≡ later_in 1 2 (vec (pos 20300) (pos 0) (pos 0)) (vec (pos 9318458440311901) (neg_ℤ (pos 1314900)) (neg_ℤ (pos 6866700))) (vec (pos 247816250) (pos 0) (pos 0))
unfolding run computing
example-tided = refl

-- ITRF93 leaves nothing behind; ITRF2000 adds (9,710,834, -2,483,700, -15,340,500) + (610, 100, -1,800) x 1,461
pub example-run :
    run example calls
    ≡ later_in 2 0 (vec (pos 20610) (pos 100) (neg_ℤ (pos 1800))) (vec (pos 9318458196822044) (neg_ℤ (pos 2337600)) (neg_ℤ (pos 17970300))) nowhere
unfolding run computing
example-run = refl

-- a frame change keeps the vector that a card stores, whatever rule it was made by
pub older-keeps : (c : Card) (g : ℕ) → (step c (frame g)).card.solid ≡ c.solid
unfolding step settle next reframed
older-keeps c g = either (eqb (call_number c (frame g)) 0)
  where
    either : (b : Bool) → (cond b (reframed g c) c).solid ≡ c.solid
    either true = refl
    either false = refl

-- the card under another tide, t grains in x, as it was stored
abbrev pub older : ℕ → Card
older t = later_in 1 2 (vec (pos 20300) (pos 0) (pos 0)) (vec (pos (9318458192495651 + t)) (neg_ℤ (pos 1314900)) (neg_ℤ (pos 6866700))) (vec (pos t) (pos 0) (pos 0))

-- 245,158,509 before degree three, and 247,695,244 before h and l followed the latitude: each ends as the card of today
pub older-run : (run (older 245158509) after_tide ≡ run example calls) × (run (older 247695244) after_tide ≡ run example calls)
unfolding run computing
older-run = (refl, refl)

-- ---- a list that a card and its field edition accept in full, and how far apart they end

-- 70,000 grains off its mark and 49 micrometres a year faster: the field record has neither
abbrev pub uneven : Card
uneven =
    record {
      site = example.site;
      frame = 0;
      tide = 0;
      epoch = pos 0;
      mark = example.mark;
      velocity = vec (pos 20049) (pos 0) (pos 0);
      position = vec (pos 9318458157070000) (pos 0) (pos 0);
      solid = nowhere;
    }

-- facts about the calls of a list in turn: `p ⨾ q ⨾ tt`
infixr 5 ◌⨾◌
abbrev pub ◌⨾◌ : {A B : Type 0} → A → B → A × B
a ⨾ b = (a, b)

abbrev pub short : List Call
short = move (pos 1461) ∷ mean_on ∷ frame 1 ∷ mean_off ∷ []

-- the card that expanding its exported record gives (FieldEdition, `edition-is`)
unfoldable pub edition : Card → Card
edition c = expanded_of (taken c)

pub uneven-accepted : Accepted uneven short
unfolding Accepted computing
uneven-accepted = refl ⨾ refl ⨾ refl ⨾ refl ⨾ tt

pub field-accepted : Accepted (edition uneven) short
unfolding edition expanded_of taken rounded_by offset_of speed_of Accepted computing
field-accepted = refl ⨾ refl ⨾ refl ⨾ refl ⨾ tt

-- 70,000 + 49 x 1,461
pub field_apart : minus (run uneven short).position (run (edition uneven) short).position ≡ vec (pos 141589) (pos 0) (pos 0)
unfolding edition expanded_of taken rounded_by offset_of speed_of run computing
field_apart = refl

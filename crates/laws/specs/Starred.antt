-- The numbers that the paper marks with a star, as one table: each row stands beside the page, about the definitions that the promises cite.
use Rattle.std.specs.Prelude.{◌≡◌, pos, neg_ℤ, ◌+ℤ◌, ◌*ℤ◌}
use Rattle.std.specs.Float.Ieee.{of_bits}
use Rattle.std.specs.Float.{binary64}
use Rattle.numbers.specs.Near.{near}
use Rattle.numbers.specs.Whole.{whole_of, some}
use Rattle.mark.specs.declared.Vec3.{Vec3}
use Rattle.mark.specs.Mark.{vec, length_of, mark_number}
use Rattle.frames.specs.Frame.{frame_a, frame_b, frame_shift}
use Rattle.tides.specs.Direction.{units}
use Rattle.tides.specs.Permanent.{permanent}
use Rattle.tides.specs.declared.BodyVector.{BodyVector}
use Rattle.tides.specs.Bodies.{moon, third_k0, wholes}
use Rattle.tides.specs.Tide.{moon_part}
use Rattle.card.specs.declared.Card.{Card}
use Rattle.card.specs.Calls.{move, step}
use Rattle.card.specs.Sample.{at}
use Rattle.field.specs.Field.{rounded_by}

-- the mark of case 2, metres
abbrev pub equator : Vec3
equator = vec (pos 6378137) (pos 0) (pos 0)

-- the card of case 7 a year on: 29,220,000 grains farther in x, and all else as it was
abbrev pub year_on : Card
year_on =
    let c = at (pos 0) in
    record {
      site = c.site;
      frame = c.frame;
      tide = c.tide;
      epoch = pos 1461;
      mark = c.mark;
      velocity = c.velocity;
      position = vec (c.position.x +ℤ pos 29220000) (pos 0) (pos 0);
      solid = c.solid;
    }

-- the doubles 384400000, 0 and 0, metres: the Moon of case 12
abbrev pub ahead : BodyVector
ahead = record { x = of_bits binary64 0x41b6_e97a_8000_0000; y = of_bits binary64 0; z = of_bits binary64 0 }

pub record Starred : Type 0 where
  -- near(1/2) = 0, near(-1/2) = 0, near(-3/2) = -2
  pub case-1 : (near (pos 1) 2 ≡ pos 0) × (near (neg_ℤ (pos 1)) 2 ≡ pos 0) × (near (neg_ℤ (pos 3)) 2 ≡ neg_ℤ (pos 2))
  -- mark (6378137, 0, 0): permanent shift (88,134,825, 0, 0)
  pub case-2 : permanent equator ≡ vec (pos 88134825) (pos 0) (pos 0)
  -- mark (0, 0, 6356752): (0, 0, -176,050,500)
  pub case-3 : permanent (vec (pos 0) (pos 0) (pos 6356752)) ≡ vec (pos 0) (pos 0) (neg_ℤ (pos 176050500))
  -- mark of 2, ITRF2005: A = (5,837,351, -1,314,900, -6,866,700), B = (300, 0, 0)
  pub case-4 : (frame_a 1 equator ≡ vec (pos 5837351) (neg_ℤ (pos 1314900)) (neg_ℤ (pos 6866700))) × (frame_b 1 equator ≡ vec (pos 300) (pos 0) (pos 0))
  -- same, ITRF2000: A = (9,710,834, -2,483,700, -15,340,500), B = (610, 100, -1,800)
  pub case-5 : (frame_a 2 equator ≡ vec (pos 9710834) (neg_ℤ (pos 2483700)) (neg_ℤ (pos 15340500))) × (frame_b 2 equator ≡ vec (pos 610) (pos 100) (neg_ℤ (pos 1800)))
  -- the same of two older frames, with rotations, as the request for them has it. ITRF93: A = (-3,288,058, -10,046,748, 10,467,597),
  -- B = (-2,226, 2,065, 3,475)
  pub older-93 : (frame_a 6 equator ≡ vec (neg_ℤ (pos 3288058)) (neg_ℤ (pos 10046748)) (pos 10467597)) × (frame_b 6 equator ≡ vec (neg_ℤ (pos 2226)) (pos 2065) (pos 3475))
  -- ITRF88: A = (130,315,949, 6,509,230, -182,917,200), B = (674, 118, -3,200)
  pub older-88 : (frame_a 11 equator ≡ vec (pos 130315949) (pos 6509230) (neg_ℤ (pos 182917200))) × (frame_b 11 equator ≡ vec (pos 674) (pos 118) (neg_ℤ (pos 3200)))
  -- ITRF2005 shift in x at epoch 7,305: 8,028,851
  pub case-6 : (frame_shift 0 1 (pos 7305) equator).x ≡ pos 8028851
  -- velocity 20,000 moved 1,461: accepted, 29,220,000 grains
  pub case-7 : step (at (pos 0)) (move (pos 1461)) ≡ record { number = 0; card = year_on }
  -- epoch 146,100 moved 1: refusal 5
  pub case-8 : (step (at (pos 146100)) (move (pos 1))).number ≡ 5
  -- marks (6300000, 0, 0) and (6400000, 1, 0) accepted; (6299999, 0, 0) and (6400001, 0, 0) refused, 6
  pub case-9 : (mark_number (vec (pos 6300000) (pos 0) (pos 0)) ≡ 0) × (mark_number (vec (pos 6400000) (pos 1) (pos 0)) ≡ 0) × (mark_number (vec (pos 6299999) (pos 0) (pos 0)) ≡ 6) × (mark_number (vec (pos 6400001) (pos 0) (pos 0)) ≡ 6)
  -- doubles 2.5 and -0.5 become 2 and 0
  pub case-10 : (whole_of (of_bits binary64 0x4004_0000_0000_0000) ≡ some (pos 2)) × (whole_of (of_bits binary64 0xbfe0_0000_0000_0000) ≡ some (pos 0))
  -- field offsets of 73,050, 73,049 and -73,050 grains: 0, 0, 0
  pub case-11 : rounded_by 146100 (vec (pos 73050) (pos 73049) (neg_ℤ (pos 73050))) ≡ vec (pos 0) (pos 0) (pos 0)
  -- Moon (384400000, 0, 0), as doubles, mark of 2: its part is (near(6,081 K0/10,000) + near(292 K0₃/1,000), 0, 0), which is 320,924,792 in x. On the
  -- equator P is -1/2, and h 0.6081
  pub case-12 : (wholes ahead ≡ vec (pos 384400000) (pos 0) (pos 0)) × (moon_part (units (length_of equator) equator) (wholes ahead) ≡ vec (near (pos 6081 *ℤ pos moon.k0) 10000 +ℤ near (pos 292 *ℤ pos third_k0) 1000) (pos 0) (pos 0)) × (near (pos 6081 *ℤ pos moon.k0) 10000 +ℤ near (pos 292 *ℤ pos third_k0) 1000 ≡ pos 320924792)

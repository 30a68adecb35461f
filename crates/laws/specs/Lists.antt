-- Lists of calls on a card: the calls one by one, the net move, and the one formula for any list.
use Rattle.std.specs.Prelude.{◌≡◌, Bool, true, false, cond, List, [], ◌∷◌, ℕ, T, eqb, ℤ, pos, ◌+ℤ◌}
use Rattle.mark.specs.declared.Vec3.{Vec3}
use Rattle.mark.specs.Mark.{nowhere, plus, minus, scaled}
use Rattle.frames.specs.Frame.{frame_b, frame_at}
use Rattle.tides.specs.Permanent.{permanent}
use Rattle.tides.specs.Bodies.{moon_of, sun_of}
use Rattle.tides.specs.Tide.{tide}
use Rattle.head.specs.State.{state_of, with_state}
use Rattle.card.specs.declared.Card.{Card}
use Rattle.card.specs.Calls.{Call, move, frame, mean_on, mean_off, solid_on, solid_off, call_number, step}

-- the calls one by one: a refused call hands on the card that it was handed
unfoldable pub run : Card → List Call → Card
run c [] = c
run c (k ∷ ks) = run (step c k).card ks

-- the number of each call in turn, 0 where it is accepted
unfoldable pub numbers : Card → List Call → List ℕ
numbers c [] = []
numbers c (k ∷ ks) = call_number c k ∷ numbers (step c k).card ks

-- which calls are accepted: those with the number 0
unfoldable pub verdicts : List ℕ → List Bool
verdicts [] = []
verdicts (n ∷ ns) = eqb n 0 ∷ verdicts ns

abbrev pub accepts : Card → Call → Bool
accepts c k = eqb (call_number c k) 0

-- every call of the list is accepted
unfoldable pub Accepted : Card → List Call → Type 0
Accepted c [] = Unit {0}
Accepted c (k ∷ ks) = (call_number c k ≡ 0) × Accepted (step c k).card ks

-- ---- the net move, quarter-days

-- by how much a call moves
abbrev pub move_of : Call → ℤ
move_of (move d) = d
move_of (frame g) = pos 0
move_of mean_on = pos 0
move_of mean_off = pos 0
move_of (solid_on a b) = pos 0
move_of solid_off = pos 0

-- the same where the call is accepted
unfoldable pub gain : Card → Call → ℤ
gain c k = cond (accepts c k) (move_of k) (pos 0)

-- the sum of the accepted moves
unfoldable pub net : Card → List Call → ℤ
net c [] = pos 0
net c (k ∷ ks) = gain c k +ℤ net (step c k).card ks

-- the sum of all moves
unfoldable pub total : List Call → ℤ
total [] = pos 0
total (k ∷ ks) = move_of k +ℤ total ks

-- a frame change or a tide: every call but a move, and a move by 0 is a move too
abbrev pub unmoving : Call → Bool
unmoving (move d) = false
unmoving (frame g) = true
unmoving mean_on = true
unmoving mean_off = true
unmoving (solid_on a b) = true
unmoving solid_off = true

-- a list of frame changes and tides
unfoldable pub Still : List Call → Type 0
Still [] = Unit {0}
Still (k ∷ ks) = T (unmoving k) × Still ks

-- ---- the frame and the tides in force

-- the tides in force: byte 10, and the vector that is stored for it
pub record Tides : Type 0 where
  pub byte : ℕ
  pub stored : Vec3

abbrev pub tides_of : Card → Tides
tides_of c = record { byte = c.tide; stored = c.solid }

-- what an accepted call makes of the frame f
unfoldable pub frame_after : ℕ → Call → ℕ
frame_after f (move d) = f
frame_after f (frame g) = g
frame_after f mean_on = f
frame_after f mean_off = f
frame_after f (solid_on a b) = f
frame_after f solid_off = f

-- what it makes of the tides t at the mark m
unfoldable pub tides_after : Vec3 → Tides → Call → Tides
tides_after m t (move d) = t
tides_after m t (frame g) = t
tides_after m t mean_on = record { byte = with_state t.byte 1; stored = t.stored }
tides_after m t mean_off = record { byte = with_state t.byte 0; stored = t.stored }
tides_after m t (solid_on a b) = record { byte = with_state t.byte 2; stored = tide m (moon_of a b) (sun_of a b) }
tides_after m t solid_off = record { byte = with_state t.byte 0; stored = nowhere }

-- the frame that the last accepted frame call gave, and f if there is none
unfoldable pub frame_from : ℕ → Card → List Call → ℕ
frame_from f c [] = f
frame_from f c (k ∷ ks) = frame_from (cond (accepts c k) (frame_after f k) f) (step c k).card ks

abbrev pub last_frame : Card → List Call → ℕ
last_frame c ks = frame_from c.frame c ks

-- the tides that the last accepted tide call left, and t if there is none
unfoldable pub tides_from : Tides → Card → List Call → Tides
tides_from t c [] = t
tides_from t c (k ∷ ks) = tides_from (cond (accepts c k) (tides_after c.mark t k) t) (step c k).card ks

abbrev pub last_tides : Card → List Call → Tides
last_tides c ks = tides_from (tides_of c) c ks

-- ---- the formula

-- the permanent shift if the state is mean-tide
unfoldable pub mean_shift : ℕ → Vec3 → Vec3
mean_shift state m = cond (eqb state 1) (permanent m) nowhere

-- the tides in force, grains: the stored tide vector, and the permanent shift if mean-tide
unfoldable pub in_force : Tides → Vec3 → Vec3
in_force t m = plus t.stored (mean_shift (state_of t.byte) m)

-- from the first position take its stored tide vector, its permanent shift if mean-tide, and A_f + B_f x epoch
unfoldable pub bare : Card → Vec3
bare c = minus (minus c.position (in_force (tides_of c) c.mark)) (frame_at c.frame c.mark c.epoch)

-- first velocity - B_f
unfoldable pub steady : Card → Vec3
steady c = minus c.velocity (frame_b c.frame c.mark)

-- add (first velocity - B_f) x net move; add A_g + B_g x last epoch and the tides at the end
unfoldable pub formula : Card → ℤ → ℕ → Tides → Card
formula c d g t =
    record {
      site = c.site;
      frame = g;
      tide = t.byte;
      epoch = c.epoch +ℤ d;
      mark = c.mark;
      velocity = plus (steady c) (frame_b g c.mark);
      position = plus (plus (plus (bare c) (scaled d (steady c))) (frame_at g c.mark (c.epoch +ℤ d))) (in_force t c.mark);
      solid = t.stored;
    }

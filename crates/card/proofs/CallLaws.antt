-- An accepted call's card passes the nine checks again, for every call.
use mathlib.Core.Path.{◌≡◌, refl, sym, ◌∙◌, subst}
use mathlib.Core.Bool.{true, false, not, ◌&&◌, ◌||◌}
use mathlib.Core.List.{◌++◌}
use Prim.Native.Nat.{ℕ, zero, suc, ◌≤◌, ◌<◌}
use native.Mathlib.Omega.{arith}
use borrow.Author.Tests.{eqb-true, ne_eqb, not-false}
use lib.Dec.{eqb, lit<}
use lib.IntN.{ℤ, ◌+ℤ◌}
use Rattle.algebra.proofs.BoolLaws.{both, and_left, and_right}
use Rattle.refusal.specs.Refusal.{Table, first}
use Rattle.refusal.proofs.RefusalLaws.{positive, NoneHolds, accepted, stays, onward}
use Rattle.mark.specs.declared.Vec3.{Vec3}
use Rattle.mark.specs.Mark.{nowhere, plus, sized, scaled}
use Rattle.mark.specs.Ranges.{Within}
use Rattle.mark.proofs.SizeLaws.{is-sized}
use Rattle.frames.specs.Frame.{known_frame}
use Rattle.tides.specs.Bodies.{moon, sun, in_reach, moon_of, sun_of}
use Rattle.tides.specs.Tide.{tide}
use Rattle.tides.proofs.TideLaws.{tide-within}
use Rattle.head.specs.State.{state_of, with_state, state_fits}
use Rattle.head.specs.Head.{epoch_fits}
use Rattle.head.proofs.StateLaws.{state-with, with-fits}
use Rattle.card.specs.declared.Card.{Card}
use Rattle.card.specs.Checks.{is_zero, tide_fits, velocity_fits, position_fits, vector_fits, checks, card_number}
use Rattle.card.specs.Calls.{Call, move, frame, mean_on, mean_off, solid_on, solid_off, with_position, moved, reframed, next, own, call_number}
use Rattle.card.proofs.CheckLaws.{Passed, passed, passed-number, positive-checks}

-- ---- a table in two parts, of which no condition holds

zero_or : (t u : Table) (n : ℕ) → first t ≡ n → first (t ++ u) ≡ 0 → first t ≡ 0
zero_or t u zero p e = p
zero_or t u (suc n) p e = let some : 0 < first t = subst (λ (x : ℕ). 0 < x) (sym p) (omega arith) in absurd (never (first t) some (sym (stays t u some) ∙ e))
  where
    never : (x : ℕ) → 0 < x → x ≡ 0 → ⊥
    never x h z = omega arith

first_part : (t u : Table) → first (t ++ u) ≡ 0 → first t ≡ 0
first_part t u e = zero_or t u (first t) refl e

pub positive-own : (c n : Card) (k : Call) → positive (own c n k) ≡ true
unfolding positive own
positive-own c n (move d) = refl
positive-own c n (frame g) = refl
positive-own c n mean_on = refl
positive-own c n mean_off = refl
positive-own c n (solid_on a b) = refl
positive-own c n solid_off = refl

-- an accepted call: the card was accepted
pub card-accepted : (c : Card) (k : Call) → call_number c k ≡ 0 → card_number c ≡ 0
unfolding call_number card_number
card-accepted c k e = first_part (checks true c) (own c (next c k) k) e

-- of an accepted card the number is the call's own
pub own-number : (c : Card) (k : Call) → card_number c ≡ 0 → call_number c k ≡ first (own c (next c k) k)
unfolding call_number card_number
own-number c k e = onward (checks true c) (own c (next c k) k) (positive-checks true c) e

-- so none of the conditions of an accepted call holds
pub own-accepted : (c : Card) (k : Call) → call_number c k ≡ 0 → NoneHolds (own c (next c k) k)
own-accepted c k e = (accepted (own c (next c k) k) (positive-own c (next c k) k)).0 (sym (own-number c k (card-accepted c k e)) ∙ e)

-- ---- byte 10 and the stored vector

zero-vector : (byte : ℕ) (v : Vec3) → state_of byte ≤ 1 → tide_fits byte v ≡ true → is_zero v ≡ true
unfolding tide_fits
zero-vector byte v h e = rw (ne_eqb (state_of byte) 2 (λ q. omega arith)) at (and_right (state_fits byte) (eqb (state_of byte) 2 || is_zero v) e)

-- another state: with solid tide any vector fits, else a vector of zeros
other_fits : (byte state : ℕ) (v : Vec3) → state_fits byte ≡ true → state ≤ 2 → eqb state 2 || is_zero v ≡ true → tide_fits (with_state byte state) v ≡ true
unfolding tide_fits
other_fits byte state v e h f = rw (with-fits byte state e h, state-with byte state h) f

-- a call's condition on it, passed
pub byte-is : (n m : ℕ) → not (eqb n m) ≡ false → n ≡ m
byte-is n m e = eqb-true n m (not-false (eqb n m) e)

vector-fits : (v : Vec3) → Within 1461000000 v → vector_fits v ≡ true
unfolding vector_fits
vector-fits v w = is-sized 1461000000 v w

nowhere-fits : vector_fits nowhere ≡ true
unfolding vector_fits sized
nowhere-fits = refl

nowhere-zero : is_zero nowhere ≡ true
unfolding is_zero sized
nowhere-zero = refl

-- ---- each call

module _ (c : Card) (p : Passed c) where
  after-move : (d : ℤ) → NoneHolds (own c (next c (move d)) (move d)) → Passed (next c (move d))
  unfolding next moved own
  after-move d h =
      record {
        site = p.site;
        frame = p.frame;
        tide = p.tide;
        epoch = not-false (epoch_fits (c.epoch +ℤ d)) (h 1 (lit< tt));
        mark = p.mark;
        velocity = p.velocity;
        position = not-false (position_fits c.mark (plus c.position (scaled d c.velocity))) (h 2 (lit< tt));
        solid = p.solid;
      }

  after_frame : (g : ℕ) → NoneHolds (own c (next c (frame g)) (frame g)) → Passed (next c (frame g))
  unfolding next reframed own
  after_frame g h =
      record {
        site = p.site;
        frame = not-false (known_frame g) (h 0 (lit< tt));
        tide = p.tide;
        epoch = p.epoch;
        mark = p.mark;
        velocity = not-false (velocity_fits (reframed g c).velocity) (h 1 (lit< tt));
        position = not-false (position_fits c.mark (reframed g c).position) (h 2 (lit< tt));
        solid = p.solid;
      }

  known : state_fits c.tide ≡ true
  unfolding tide_fits
  known = and_left (state_fits c.tide) (eqb (state_of c.tide) 2 || is_zero c.solid) p.tide

  still : (n state : ℕ) → n ≤ 1 → state ≤ 1 → state_of c.tide ≡ n → tide_fits (with_state c.tide state) c.solid ≡ true
  still n state h k e =
      other_fits c.tide state c.solid known (omega arith)
      (rw (ne_eqb state 2 (λ q. omega arith)) (zero-vector c.tide c.solid (omega (arith, e)) p.tide))

  -- a tide call: byte 10, the position and the stored vector are new
  retided : (byte : ℕ) (q v : Vec3) → tide_fits byte v ≡ true → (not (position_fits c.mark q) ≡ false) → vector_fits v ≡ true → Passed (with_position c byte q v)
  retided byte q v t f z =
      record {
        site = p.site;
        frame = p.frame;
        tide = t;
        epoch = p.epoch;
        mark = p.mark;
        velocity = p.velocity;
        position = not-false (position_fits c.mark q) f;
        solid = z;
      }

  pub next-passed : (k : Call) → NoneHolds (own c (next c k) k) → Passed (next c k)
  unfolding next own
  next-passed (move d) h = after-move d h
  next-passed (frame g) h = after_frame g h
  next-passed mean_on h = retided _ _ _ (still 0 1 (omega arith) (omega arith) (byte-is (state_of c.tide) 0 (h 0 (lit< tt)))) (h 1 (lit< tt)) p.solid
  next-passed mean_off h = retided _ _ _ (still 1 0 (omega arith) (omega arith) (byte-is (state_of c.tide) 1 (h 0 (lit< tt)))) (h 1 (lit< tt)) p.solid
  next-passed (solid_on a b) h =
      let v = tide c.mark (moon_of a b) (sun_of a b) in
      let r = both (in_reach moon (moon_of a b)) (in_reach sun (sun_of a b)) (not-false (in_reach moon (moon_of a b) && in_reach sun (sun_of a b)) (h 3 (lit< tt))) in
      retided _ _ _ (other_fits c.tide 2 v known (omega arith) refl) (h 4 (lit< tt))
      (vector-fits v (tide-within c.mark (moon_of a b) (sun_of a b) p.mark r.0 r.1))
  next-passed solid_off h = retided _ _ _ (other_fits c.tide 0 nowhere known (omega arith) nowhere-zero) (h 1 (lit< tt)) nowhere-fits

-- ---- every call

pub stays-valid : (c : Card) (k : Call) → call_number c k ≡ 0 → card_number (next c k) ≡ 0
stays-valid c k e = passed-number (next c k) (next-passed c (passed c (card-accepted c k e)) k (own-accepted c k e))

-- The core of a card: an accepted call moves it by the call's own move, which is 0 for all but `move d`.
use mathlib.Core.Path.{◌≡◌, refl, sym, ◌∙◌, ap}
use mathlib.Core.Bool.{Bool, cond}
use mathlib.Core.List.{[], ◌∷◌}
use Prim.Native.Nat.{ℕ, ◌≤◌}
use native.Mathlib.Omega.{arith}
use lib.Dec.{eqb, lit<}
use lib.IntN.{ℤ, pos, ◌+ℤ◌}
use Rattle.algebra.proofs.Ring.{by-ring, quote}
use Rattle.refusal.proofs.RefusalLaws.{NoneHolds}
use Rattle.mark.specs.declared.Vec3.{Vec3}
use Rattle.mark.specs.Mark.{nowhere, plus, minus}
use Rattle.frames.specs.Frame.{frame_a, frame_b, frame_at, frame_shift, frame_gain}
use Rattle.tides.specs.Permanent.{permanent}
use Rattle.tides.specs.Bodies.{moon_of, sun_of}
use Rattle.tides.specs.Tide.{tide}
use Rattle.head.specs.State.{state_of, with_state}
use Rattle.head.proofs.StateLaws.{state-with}
use Rattle.card.specs.declared.Card.{Card}
use Rattle.card.specs.Calls.{Call, move, frame, mean_on, mean_off, solid_on, solid_off, with_position, moved, reframed, next, own, call_number, step}
use Rattle.card.proofs.CheckLaws.{Passed, passed}
use Rattle.card.proofs.ValidLaws.{solid-none}
use Rattle.card.proofs.CallLaws.{card-accepted, own-accepted, byte-is}
use Rattle.laws.specs.Lists.{Tides, tides_of, move_of, gain, mean_shift, in_force, bare, steady, formula}
use Rattle.laws.specs.Core.{Core, core, later, dressed}
use Rattle.laws.proofs.VectorLaws.{unmoved, back, back-two, scaled-nothing, scaled-twice, moved-bare, reframed-bare, reframed-steady, mean-on, mean-off, solid-on, solid-off}
use Rattle.laws.proofs.CallLaws.{settled}

-- ---- the core and the card

-- a card is its core in its frame and with its tides
pub dressed-core : (c : Card) → dressed (core c) c.frame (tides_of c) ≡ c
unfolding dressed core bare steady
dressed-core c = λ i.
    record {
      site = c.site;
      frame = c.frame;
      tide = c.tide;
      epoch = c.epoch;
      mark = c.mark;
      velocity = back c.velocity (frame_b c.frame c.mark) i;
      position = back-two c.position (in_force (tides_of c) c.mark) (frame_at c.frame c.mark c.epoch) i;
      solid = c.solid;
    }

-- the formula moves the core and dresses it anew
pub formula-core : (c : Card) (d : ℤ) (g : ℕ) (t : Tides) → formula c d g t ≡ dressed (later d (core c)) g t
unfolding formula dressed later core
formula-core c d g t = refl

-- ---- moving the core

pub later-nothing : (b : Core) → later (pos 0) b ≡ b
unfolding later
later-nothing b = λ i.
    record {
      site = b.site;
      mark = b.mark;
      epoch = unmoved b.epoch i;
      velocity = b.velocity;
      position = scaled-nothing b.position b.velocity i;
    }

pub later-twice : (d e : ℤ) (b : Core) → later e (later d b) ≡ later (d +ℤ e) b
unfolding later
later-twice d e b = λ i.
    record {
      site = b.site;
      mark = b.mark;
      epoch = regrouped b.epoch i;
      velocity = b.velocity;
      position = scaled-twice d e b.position b.velocity i;
    }
  where
    regrouped : (a : ℤ) → a +ℤ d +ℤ e ≡ a +ℤ (d +ℤ e)
    regrouped a = by-ring (a ∷ d ∷ e ∷ []) (search quote depth 30) tt

-- ---- the calls

-- a move moves the core
core-moved : (d : ℤ) (c : Card) → core (moved d c) ≡ later d (core c)
unfolding core later moved bare steady frame_at
core-moved d c = λ i.
    record {
      site = c.site;
      mark = c.mark;
      epoch = c.epoch +ℤ d;
      velocity = minus c.velocity (frame_b c.frame c.mark);
      position =
          moved-bare c.position c.velocity (in_force (tides_of c) c.mark) (frame_a c.frame c.mark)
          (frame_b c.frame c.mark) c.epoch d i;
    }

-- a frame change keeps the core
pub core-reframed : (g : ℕ) (c : Card) → core (reframed g c) ≡ core c
unfolding core reframed bare steady frame_shift frame_gain
core-reframed g c = λ i.
    record {
      site = c.site;
      mark = c.mark;
      epoch = c.epoch;
      velocity = reframed-steady c.velocity (frame_b c.frame c.mark) (frame_b g c.mark) i;
      position =
          reframed-bare c.position (in_force (tides_of c) c.mark) (frame_at c.frame c.mark c.epoch)
          (frame_at g c.mark c.epoch) i;
    }

-- a tide call keeps the core if it keeps the position less the tides in force
core-tides :
    (c : Card) (byte : ℕ) (p v : Vec3)
    → minus p (in_force (record { byte = byte; stored = v }) c.mark) ≡ minus c.position (in_force (tides_of c) c.mark)
    → core (with_position c byte p v) ≡ core c
unfolding core bare steady
core-tides c byte p v e = λ i.
    record {
      site = c.site;
      mark = c.mark;
      epoch = c.epoch;
      velocity = minus c.velocity (frame_b c.frame c.mark);
      position = minus (e i) (frame_at c.frame c.mark c.epoch);
    }

-- from one state of byte 10 to another
retided :
    (c : Card) (from to : ℕ) (p v : Vec3)
    → to ≤ 2
    → state_of c.tide ≡ from
    → minus p (plus v (mean_shift to c.mark)) ≡ minus c.position (plus c.solid (mean_shift from c.mark))
    → core (with_position c (with_state c.tide to) p v) ≡ later (pos 0) (core c)
unfolding in_force
retided c from to p v l t k = core-tides c (with_state c.tide to) p v (rw (t, state-with c.tide to l) k) ∙ sym (later-nothing (core c))

core-kept : (c : Card) (k : Call) → Passed c → NoneHolds (own c (next c k) k) → core (next c k) ≡ later (move_of k) (core c)
unfolding next own mean_shift
core-kept c (move d) p h = core-moved d c
core-kept c (frame g) p h = core-reframed g c ∙ sym (later-nothing (core c))
core-kept c mean_on p h =
    let s = permanent c.mark in
    retided c 0 1 (plus c.position s) c.solid (omega arith) (byte-is (state_of c.tide) 0 (h 0 (lit< tt))) (mean-on c.position c.solid s)
core-kept c mean_off p h =
    let s = permanent c.mark in
    retided c 1 0 (minus c.position s) c.solid (omega arith) (byte-is (state_of c.tide) 1 (h 0 (lit< tt))) (mean-off c.position c.solid s)
core-kept c (solid_on a b) p h =
    let v = tide c.mark (moon_of a b) (sun_of a b) in
    let free = byte-is (state_of c.tide) 0 (h 0 (lit< tt)) in
    let none = solid-none c.tide c.solid p.tide (ap (λ (n : ℕ). eqb n 2) free) in
    retided c 0 2 (plus c.position v) v (omega arith) free
    (solid-on c.position v nowhere ∙ ap (λ (s : Vec3). minus c.position (plus s nowhere)) (sym none))
core-kept c solid_off p h =
    retided c 2 0 (minus c.position c.solid) nowhere (omega arith) (byte-is (state_of c.tide) 2 (h 0 (lit< tt)))
    (solid-off c.position c.solid nowhere)

pub core-next : (c : Card) (k : Call) → call_number c k ≡ 0 → core (next c k) ≡ later (move_of k) (core c)
core-next c k e = core-kept c k (passed c (card-accepted c k e)) (own-accepted c k e)

-- refused or accepted, a call moves the core by what it gains
pub core-step : (c : Card) (k : Call) → core (step c k).card ≡ later (gain c k) (core c)
unfolding gain
core-step c k =
    settled (λ (t : Bool) (n : Card). core n ≡ later (cond t (move_of k) (pos 0)) (core c)) c k (core-next c k)
    (sym (later-nothing (core c)))

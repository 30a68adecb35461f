-- What each call answers, case by case: the laws behind the private steps and the six calls.
use mathlib.Core.Path.{◌≡◌, refl, sym, ap, ◌∙◌, subst, subst⁻¹}
use mathlib.Core.Bool.{Bool, true, false, ◌&&◌, cond}
use mathlib.Core.List.{[], ◌++◌}
use Prim.Native.Nat.{ℕ, ◌+◌, ◌≤◌, ◌<◌}
use native.Mathlib.Omega.{arith}
use borrow.Author.Tests.{lt-leb, eq-eqb, ne_eqb, not-false}
use Rattle.std.specs.Prelude.{Ok}
use lib.Dec.{T, lit<, lit≤, eqb}
use lib.IntN.{ℤ, nat_abs, ◌+ℤ◌}
use Rattle.algebra.proofs.BoolLaws.{both}
use Rattle.algebra.proofs.Difference.{split, ℤ⊖}
use Rattle.refusal.specs.Refusal.{Table, first}
use Rattle.refusal.specs.declared.Refusal.{Refusal}
use Rattle.refusal.specs.Answered.{number_of, answered}
use Rattle.refusal.proofs.AnsweredLaws.{some}
use Rattle.refusal.proofs.RefusalLaws.{positive, accepted, stays, onward}
use Rattle.mark.specs.declared.Vec3.{Vec3}
use Rattle.mark.specs.Mark.{nowhere, marked, plus, minus, scaled, sized}
use Rattle.mark.specs.Ranges.{Within}
use Rattle.mark.proofs.LengthLaws.{widen}
use Rattle.mark.proofs.SizeLaws.{within-sized}
use Rattle.frames.specs.Frame.{known_frame, frame_shift, frame_gain}
use Rattle.tides.specs.declared.Body.{Body}
use Rattle.tides.specs.Permanent.{permanent}
use Rattle.tides.specs.Bodies.{moon, sun, in_reach, moon_of, sun_of}
use Rattle.tides.specs.Tide.{tide, tide_number, tide_answer, pair_checks}
use Rattle.tides.proofs.PermanentLaws.{permanent-within}
use Rattle.tides.proofs.TideLaws.{tide-within}
use Rattle.head.specs.State.{state_of, with_state}
use Rattle.head.specs.Head.{epoch_fits}
use Rattle.card.specs.declared.Card.{Card}
use Rattle.card.specs.declared.Answer.{Answer}
use Rattle.card.specs.Checks.{tide_fits, velocity_fits, position_fits, checks, card_number, Valid}
use Rattle.card.specs.Calls.{Call, move, frame, mean_on, mean_off, solid_on, solid_off, with_position, moved, reframed, next, near_mark, tide_checks, own, call_number, settle, step}
use Rattle.card.specs.Steps.{after, retided}
use Rattle.card.proofs.CheckLaws.{positive-checks, valid-small}

abbrev pub answer : ℕ → Card → Answer
answer n c = record { number = n; card = c }

some_of : (n : ℕ) → (n ≡ 0 → ⊥) → 0 < n
some_of n h = omega arith

-- ---- a tide call: 12, what it asks besides, 8

module _ (c n : Card) (from : ℕ) (besides : Table) where
  pub other-state : eqb (state_of c.tide) from ≡ false → answer 12 c ≡ settle (first (tide_checks from besides c n)) c n
  unfolding settle first
  other-state h = rw h

  pub same-state : eqb (state_of c.tide) from ≡ true → settle (first (besides ++ near_mark n)) c n ≡ settle (first (tide_checks from besides c n)) c n
  unfolding first
  same-state h = rw h

module _ (c : Card) (to : ℕ) (p v : Vec3) where
  pub retided-far : position_fits c.mark p ≡ false → answer 8 c ≡ retided c to p v
  unfolding retided settle first
  retided-far e = rw e

  pub retided-near : position_fits c.mark p ≡ true → answer 0 (with_position c (with_state c.tide to) p v) ≡ retided c to p v
  unfolding retided settle first
  retided-near e = rw e

-- ---- move: 13, 5, 8

module _ (c : Card) (d : ℤ) where
  pub moved-tide : state_of c.tide ≡ 2 → answer 13 c ≡ after c (move d)
  unfolding after own next settle first
  moved-tide h = rw (eq-eqb (state_of c.tide) 2 h)

  module _ (h : state_of c.tide ≡ 2 → ⊥) where
    pub moved-epoch : epoch_fits (c.epoch +ℤ d) ≡ false → answer 5 c ≡ after c (move d)
    unfolding after own next moved settle first
    moved-epoch e = rw (ne_eqb (state_of c.tide) 2 h, e)

    pub moved-far : epoch_fits (c.epoch +ℤ d) ≡ true → position_fits c.mark (plus c.position (scaled d c.velocity)) ≡ false → answer 8 c ≡ after c (move d)
    unfolding after own next moved settle first
    moved-far e q = rw (ne_eqb (state_of c.tide) 2 h, e, q)

    pub moved-near : (t : ℤ) (p : Vec3) → epoch_fits (c.epoch +ℤ d) ≡ true → position_fits c.mark (plus c.position (scaled d c.velocity)) ≡ true
        → t ≡ c.epoch +ℤ d → p ≡ plus c.position (scaled d c.velocity)
        → answer 0 (record { site = c.site; frame = c.frame; tide = c.tide; epoch = t; mark = c.mark; velocity = c.velocity; position = p; solid = c.solid }) ≡ after c (move d)
    unfolding after own next moved settle first
    moved-near t p e q s w = rw (ne_eqb (state_of c.tide) 2 h, e, q, s, w)

-- a move longer than the whole range of the epoch does not stay in it
apart : (e d : ℤ) → nat_abs d ≤ nat_abs (e +ℤ d) + nat_abs e
apart e d = rw (split e, split d) (simp ℤ⊖ (omega arith))

pub too_long : (e d : ℤ) → nat_abs e ≤ 146100 → 292200 < nat_abs d → epoch_fits (e +ℤ d) ≡ false
unfolding epoch_fits
too_long e d h k = lt-leb (nat_abs (e +ℤ d)) 146100 (omega (arith, apart e d))

-- ---- frame: 3, 7, 8

-- what velocity and position become
abbrev pub new_velocity : Card → ℕ → Vec3
new_velocity c g = plus c.velocity (frame_gain c.frame g c.mark)

abbrev pub new_position : Card → ℕ → Vec3
new_position c g = plus c.position (frame_shift c.frame g c.epoch c.mark)

module _ (c : Card) (g : ℕ) where
  pub reframed-unknown : known_frame g ≡ false → answer 3 c ≡ after c (frame g)
  unfolding after own next settle first
  reframed-unknown h = rw h

  module _ (h : known_frame g ≡ true) where
    pub reframed-fast : velocity_fits (new_velocity c g) ≡ false → answer 7 c ≡ after c (frame g)
    unfolding after own next reframed settle first
    reframed-fast e = rw (h, e)

    pub reframed-far : velocity_fits (new_velocity c g) ≡ true → position_fits c.mark (new_position c g) ≡ false → answer 8 c ≡ after c (frame g)
    unfolding after own next reframed settle first
    reframed-far e q = rw (h, e, q)

    pub reframed-near : (v p : Vec3) → velocity_fits (new_velocity c g) ≡ true → position_fits c.mark (new_position c g) ≡ true → v ≡ new_velocity c g → p ≡ new_position c g
        → answer 0 (record { site = c.site; frame = g; tide = c.tide; epoch = c.epoch; mark = c.mark; velocity = v; position = p; solid = c.solid }) ≡ after c (frame g)
    unfolding after own next reframed settle first
    reframed-near v p e q s w = rw (h, e, q, s, w)

-- ---- what the steps ask of a valid card

module _ (c : Card) (v : Valid c) where
  pub mark-sized : T (sized 6400000 c.mark)
  mark-sized = within-sized (valid-small c v).mark

  -- to a position in range, three numbers up to the largest stored vector can be added
  pub addable : {w : Vec3} → Within 1461000000 w → T (sized 4000000000000000000 c.position) × T (sized 4000000000000000000 w)
  addable h = (within-sized (widen (valid-small c v).position (lit≤ tt)), within-sized (widen h (lit≤ tt)))

  -- the permanent shift can be
  pub mean-addable : {w : Vec3} → w ≡ permanent c.mark → T (sized 4000000000000000000 c.position) × T (sized 4000000000000000000 w)
  mean-addable e = addable (subst⁻¹ (λ (u : Vec3). Within 1461000000 u) e (widen (permanent-within c.mark) (lit≤ tt)))

-- ---- mean on, mean off, solid off: 12, 8

module _ (c : Card) where
  pub mean-on-is : (p : Vec3) → p ≡ plus c.position (permanent c.mark) → eqb (state_of c.tide) 0 ≡ true → retided c 1 p c.solid ≡ after c mean_on
  unfolding after own next retided
  mean-on-is p e h = rw e (same-state c _ 0 [] h)

  pub mean-off-is : (p : Vec3) → p ≡ minus c.position (permanent c.mark) → eqb (state_of c.tide) 1 ≡ true → retided c 0 p c.solid ≡ after c mean_off
  unfolding after own next retided
  mean-off-is p e h = rw e (same-state c _ 1 [] h)

  pub solid-off-is : (p : Vec3) → p ≡ minus c.position c.solid → eqb (state_of c.tide) 2 ≡ true → retided c 0 p nowhere ≡ after c solid_off
  unfolding after own next retided
  solid-off-is p e h = rw e (same-state c _ 2 [] h)

  pub mean-on-other : eqb (state_of c.tide) 0 ≡ false → answer 12 c ≡ after c mean_on
  unfolding after own
  mean-on-other h = other-state c _ 0 [] h

  pub mean-off-other : eqb (state_of c.tide) 1 ≡ false → answer 12 c ≡ after c mean_off
  unfolding after own
  mean-off-other h = other-state c _ 1 [] h

  pub solid-off-other : eqb (state_of c.tide) 2 ≡ false → answer 12 c ≡ after c solid_off
  unfolding after own
  solid-off-other h = other-state c _ 2 [] h

-- ---- solid on: 12, 17, 10, 11, 8

tide-number : (m : Vec3) (a b : Body) → marked m ≡ true → tide_number m a b ≡ first (pair_checks a b)
unfolding tide_number first
tide-number m a b e = rw e

module _ (c : Card) (a b : Body) where
  abbrev there : Card
  there = next c (solid_on a b)

  pub solid-on-other : eqb (state_of c.tide) 0 ≡ false → answer 12 c ≡ after c (solid_on a b)
  unfolding after own
  solid-on-other h = other-state c there 0 (pair_checks a b) h

  module _ (h : eqb (state_of c.tide) 0 ≡ true) (e : marked c.mark ≡ true) where
    rest : settle (first (pair_checks a b ++ near_mark there)) c there ≡ after c (solid_on a b)
    unfolding after own
    rest = same-state c there 0 (pair_checks a b) h

    -- the bodies' refusal
    pub solid-on-refused : (d : Refusal) → number_of d ≡ tide_number c.mark a b → answer (number_of d) c ≡ after c (solid_on a b)
    unfolding positive settle
    solid-on-refused d q =
        let k : number_of d ≡ first (pair_checks a b) = q ∙ tide-number c.mark a b e in
        let some_more : 0 < first (pair_checks a b) = subst (λ (x : ℕ). 0 < x) k (some_of (number_of d) (some d)) in
        let s : first (pair_checks a b ++ near_mark there) ≡ number_of d = stays (pair_checks a b) (near_mark there) some_more ∙ sym k in
        rw (← rest, s, ne_eqb (number_of d) 0 (some d))

    module _ (v : Vec3) (q : answered nowhere (Ok v) ≡ tide_answer c.mark a b) where
      none : first (pair_checks a b) ≡ 0
      unfolding tide_answer
      none = sym (tide-number c.mark a b e) ∙ sym (ap (λ x. x.number) q)

      reach : in_reach moon (moon_of a b) && in_reach sun (sun_of a b) ≡ true
      unfolding positive
      reach = not-false (in_reach moon (moon_of a b) && in_reach sun (sun_of a b)) ((accepted (pair_checks a b) refl).0 none 2 (lit< tt))

      tide-is : v ≡ tide c.mark (moon_of a b) (sun_of a b)
      unfolding tide_answer
      tide-is = ap (λ x. x.value) q ∙ rw (tide-number c.mark a b e, none)

      pub tide-small : Within 1461000000 v
      tide-small =
          let r = both (in_reach moon (moon_of a b)) (in_reach sun (sun_of a b)) reach in
          subst⁻¹ (λ (w : Vec3). Within 1461000000 w) tide-is (tide-within c.mark (moon_of a b) (sun_of a b) e r.0 r.1)

      pub solid-on-is : retided c 2 (plus c.position v) v ≡ after c (solid_on a b)
      unfolding retided next positive
      solid-on-is =
          let o : first (pair_checks a b ++ near_mark there) ≡ first (near_mark there) = onward (pair_checks a b) (near_mark there) refl none in
          rw (← rest, o, tide-is)

-- ---- the six calls: the card's number where it is not 0, else the call's own

-- the zero bytes of an accepted record are zero
pub zeros-true : (z : Bool) (c : Card) → first (checks z c) ≡ 0 → z ≡ true
unfolding checks positive
zeros-true z c e =
    let none = (accepted (checks z c) refl).0 e in
    (both z (tide_fits c.tide c.solid) (not-false (z && tide_fits c.tide c.solid) (none 2 (lit< tt)))).0

module _ (c : Card) where
  pub check-refused : (k : Call) (e : Refusal) → number_of e ≡ card_number c → answer (number_of e) c ≡ step c k
  unfolding step call_number card_number settle
  check-refused k e q =
      let some_more : 0 < first (checks true c) = subst (λ (x : ℕ). 0 < x) q (some_of (number_of e) (some e)) in
      let same : first (checks true c ++ own c (next c k) k) ≡ number_of e = stays (checks true c) (own c (next c k) k) some_more ∙ sym q in
      rw (same, ne_eqb (number_of e) 0 (some e))

  pub check-passed : (k : Call) → 0 ≡ card_number c → after c k ≡ step c k
  unfolding step call_number card_number after
  check-passed k h = ap (λ (x : ℕ). settle x c (next c k)) (sym (onward (checks true c) (own c (next c k) k) (positive-checks true c) (sym h)))

-- ---- other uses of a card's number

-- what the card's own number says
pub number_is : (c : Card) (n : ℕ) → n ≡ first (checks true c) → n ≡ card_number c
unfolding card_number
number_is c n q = q

-- an answer by its number
pub settled : (n : ℕ) (a b : Card) → (n ≡ 0 → ⊥) → answer n b ≡ answer n (cond (eqb n 0) a b)
settled n a b h = rw (ne_eqb n 0 h)

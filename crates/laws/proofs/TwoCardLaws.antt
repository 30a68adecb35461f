-- Two alike cards under one list of which each call is accepted by both or refused by both: they stay alike, and the vector between them
-- changes only by their velocity difference times the net move. The field bound and the ties at one pillar stand on it.
use mathlib.Core.Path.{◌≡◌, refl, sym, ◌∙◌, ap, ap₂, subst}
use mathlib.Core.Bool.{Bool, true, false, cond}
use mathlib.Core.List.{List, [], ◌∷◌}
use Prim.Native.Nat.{ℕ}
use lib.Dec.{eqb}
use lib.IntN.{ℤ, pos, ◌+ℤ◌}
use lib.ListN.{drop, get_or}
use Rattle.mark.specs.Mark.{plus, minus, scaled}
use Rattle.frames.specs.Frame.{frame_b, frame_at}
use Rattle.card.specs.declared.Card.{Card}
use Rattle.card.specs.Calls.{Call, move, frame, mean_on, mean_off, solid_on, solid_off, moved, reframed, next, settle, step, call_number}
use Rattle.laws.specs.Lists.{tides_of, tides_after, run, numbers, verdicts, accepts, move_of, gain, net, Accepted, Still, in_force, bare, steady}
use Rattle.laws.specs.Core.{Core, core, later}
use Rattle.laws.specs.TwoCards.{Alike, Agree, between, parting}
use Rattle.laws.proofs.VectorLaws.{common, apart-later, scaled-nothing}
use Rattle.laws.proofs.CallLaws.{tides-next}
use Rattle.laws.proofs.ListTheorem.{core-run, net-still}

-- ---- alike they stay

next-tides : (c c' : Card) (k : Call) → Alike c c' → tides_of (next c k) ≡ tides_of (next c' k)
next-tides c c' k s = tides-next c k ∙ (λ i. tides_after (s.mark i) (s.tides i) k) ∙ sym (tides-next c' k)

next-alike : (c c' : Card) (k : Call) → Alike c c' → Alike (next c k) (next c' k)
unfolding next moved reframed
next-alike c c' (move d) s =
    record { mark = s.mark; frame = s.frame; epoch = ap (λ (e : ℤ). e +ℤ d) s.epoch; tides = next-tides c c' (move d) s }
next-alike c c' (frame g) s = record { mark = s.mark; frame = refl; epoch = s.epoch; tides = next-tides c c' (frame g) s }
next-alike c c' mean_on s = record { mark = s.mark; frame = s.frame; epoch = s.epoch; tides = next-tides c c' mean_on s }
next-alike c c' mean_off s = record { mark = s.mark; frame = s.frame; epoch = s.epoch; tides = next-tides c c' mean_off s }
next-alike c c' (solid_on a b) s = record { mark = s.mark; frame = s.frame; epoch = s.epoch; tides = next-tides c c' (solid_on a b) s }
next-alike c c' solid_off s = record { mark = s.mark; frame = s.frame; epoch = s.epoch; tides = next-tides c c' solid_off s }

-- a call that both accept or both refuse
pub step-agreed :
    (c c' : Card) (k : Call) → Alike c c' → accepts c k ≡ accepts c' k → Alike (step c k).card (step c' k).card
unfolding step settle
step-agreed c c' k s e = subst (λ (t : Bool). Alike (step c k).card (cond t (next c' k) c')) e (either (accepts c k))
  where
    either : (t : Bool) → Alike (cond t (next c k) c) (cond t (next c' k) c')
    either true = next-alike c c' k s
    either false = s

-- ---- a list of such calls

-- the first call, and the others
first-same : {b d : Bool} {bs ds : List Bool} → b ∷ bs ≡ d ∷ ds → b ≡ d
first-same e = ap (λ (bs : List Bool). get_or bs 0 false) e

others_same : {b d : Bool} {bs ds : List Bool} → b ∷ bs ≡ d ∷ ds → bs ≡ ds
others_same e = ap (λ (bs : List Bool). drop 1 bs) e

pub run-agreed : (c c' : Card) (ks : List Call) → Alike c c' → Agree c c' ks → Alike (run c ks) (run c' ks)
unfolding run numbers verdicts
run-agreed c c' [] s e = s
run-agreed c c' (k ∷ ks) s e =
    run-agreed (step c k).card (step c' k).card ks (step-agreed c c' k s (first-same e)) (others_same e)

net-agreed : (c c' : Card) (ks : List Call) → Agree c c' ks → net c ks ≡ net c' ks
unfolding net gain numbers verdicts
net-agreed c c' [] e = refl
net-agreed c c' (k ∷ ks) e =
    ap₂ ◌+ℤ◌ (ap (λ (t : Bool). cond t (move_of k) (pos 0)) (first-same e))
    (net-agreed (step c k).card (step c' k).card ks (others_same e))

-- accepted in full by both is one case
pub accepted-same : (c c' : Card) (ks : List Call) → Accepted c ks → Accepted c' ks → Agree c c' ks
unfolding numbers verdicts Accepted
accepted-same c c' [] a a' = refl
accepted-same c c' (k ∷ ks) a a' =
    ap₂ ◌∷◌ (ap (λ (n : ℕ). eqb n 0) (a.0 ∙ sym a'.0)) (accepted-same (step c k).card (step c' k).card ks a.1 a'.1)

-- ---- between alike cards the frame and the tides fall out

bare_apart : (c c' : Card) → Alike c c' → minus (bare c) (bare c') ≡ between c c'
unfolding bare
bare_apart c c' s =
    let t = in_force (tides_of c) c.mark in
    let f = frame_at c.frame c.mark c.epoch in
    (λ i. minus (bare c) (minus (minus c'.position (tides i)) (shift i)))
    ∙ common (minus c.position t) (minus c'.position t) f
    ∙ common c.position c'.position t
  where
    tides : in_force (tides_of c') c'.mark ≡ in_force (tides_of c) c.mark
    tides = sym λ i. in_force (s.tides i) (s.mark i)

    shift : frame_at c'.frame c'.mark c'.epoch ≡ frame_at c.frame c.mark c.epoch
    shift = sym λ i. frame_at (s.frame i) (s.mark i) (s.epoch i)

steady-apart : (c c' : Card) → Alike c c' → minus (steady c) (steady c') ≡ parting c c'
unfolding steady
steady-apart c c' s =
    (λ i. minus (steady c) (minus c'.velocity (rate i)))
    ∙ common c.velocity c'.velocity (frame_b c.frame c.mark)
  where
    rate : frame_b c'.frame c'.mark ≡ frame_b c.frame c.mark
    rate = sym λ i. frame_b (s.frame i) (s.mark i)

-- the core's two parts after a list
bare-run : (c : Card) (ks : List Call) → bare (run c ks) ≡ plus (bare c) (scaled (net c ks) (steady c))
unfolding core later
bare-run c ks = ap (λ (b : Core). b.position) (core-run c ks)

steady-run : (c : Card) (ks : List Call) → steady (run c ks) ≡ steady c
unfolding core later
steady-run c ks = ap (λ (b : Core). b.velocity) (core-run c ks)

-- ---- the vector between them

module _ (c c' : Card) (ks : List Call) (s : Alike c c') (e : Agree c c' ks) where
  pub difference-agreed : between (run c ks) (run c' ks) ≡ plus (between c c') (scaled (net c ks) (parting c c'))
  difference-agreed =
      sym (bare_apart (run c ks) (run c' ks) (run-agreed c c' ks s e))
      ∙ ap₂ minus (bare-run c ks) (bare-run c' ks)
      ∙ ap (λ (n : ℤ). minus (plus (bare c) (scaled (net c ks) (steady c))) (plus (bare c') (scaled n (steady c')))) (sym (net-agreed c c' ks e))
      ∙ apart-later (net c ks) (bare c) (bare c') (steady c) (steady c')
      ∙ (λ i. plus (bare_apart c c' s i) (scaled (net c ks) (steady-apart c c' s i)))

  pub velocity-agreed : parting (run c ks) (run c' ks) ≡ parting c c'
  velocity-agreed =
      sym (steady-apart (run c ks) (run c' ks) (run-agreed c c' ks s e))
      ∙ ap₂ minus (steady-run c ks) (steady-run c' ks)
      ∙ steady-apart c c' s

  -- without a move nothing is left but the first vector
  pub difference-still : Still ks → between (run c ks) (run c' ks) ≡ between c c'
  difference-still h =
      difference-agreed ∙ ap (λ (n : ℤ). plus (between c c') (scaled n (parting c c'))) (net-still c ks h) ∙ scaled-nothing (between c c') (parting c c')

-- ---- and so of a call, and of a list, that both accept

step-alike : (c c' : Card) (k : Call) → Alike c c' → call_number c k ≡ 0 → call_number c' k ≡ 0 → Alike (step c k).card (step c' k).card
step-alike c c' k s e e' = step-agreed c c' k s (ap (λ (n : ℕ). eqb n 0) (e ∙ sym e'))

pub run-alike : (c c' : Card) (ks : List Call) → Alike c c' → Accepted c ks → Accepted c' ks → Alike (run c ks) (run c' ks)
run-alike c c' ks s a a' = run-agreed c c' ks s (accepted-same c c' ks a a')

pub net-same : (c c' : Card) (ks : List Call) → Accepted c ks → Accepted c' ks → net c ks ≡ net c' ks
net-same c c' ks a a' = net-agreed c c' ks (accepted-same c c' ks a a')

module _ (c c' : Card) (ks : List Call) (s : Alike c c') (a : Accepted c ks) (a' : Accepted c' ks) where
  pub difference : minus (run c ks).position (run c' ks).position ≡ plus (minus c.position c'.position) (scaled (net c ks) (minus c.velocity c'.velocity))
  difference = difference-agreed c c' ks s (accepted-same c c' ks a a')

  pub velocity-difference : minus (run c ks).velocity (run c' ks).velocity ≡ minus c.velocity c'.velocity
  velocity-difference = velocity-agreed c c' ks s (accepted-same c c' ks a a')

-- Frame calls in a row, over all known frames: by way of another frame is as direct, number and card, and back gives the card itself.
use mathlib.Core.Path.{◌≡◌, refl, sym, ap, ◌∙◌}
use Prim.Native.Nat.{ℕ}
use Rattle.refusal.specs.Refusal.{first}
use Rattle.card.specs.declared.Card.{Card}
use Rattle.card.specs.declared.Answer.{Answer}
use Rattle.card.specs.Calls.{frame, reframed, next, own, call_number, settle, step}
use Rattle.card.proofs.CheckLaws.{number-valid}
use Rattle.card.proofs.CallLaws.{card-accepted, own-number, stays-valid}
use Rattle.laws.specs.Lists.{tides_of}
use Rattle.laws.specs.Core.{Core, core, dressed}
use Rattle.laws.proofs.CallLaws.{accepted-card}
use Rattle.laws.proofs.CoreLaws.{dressed-core, core-reframed}
use Rattle.laws.proofs.IdleCalls.{given, frame-to-itself}

-- ---- the cards, known frames or not: each is its core in the last frame and with its tides

in_frame : (g : ℕ) (c : Card) → reframed g c ≡ dressed (core c) g (tides_of c)
unfolding reframed
in_frame g c = sym (dressed-core (reframed g c)) ∙ ap (λ (b : Core). dressed b g (tides_of c)) (core-reframed g c)

next-through : (c : Card) (g h : ℕ) → next (next c (frame g)) (frame h) ≡ next c (frame h)
unfolding next reframed
next-through c g h = in_frame h (reframed g c) ∙ ap (λ (b : Core). dressed b h (tides_of c)) (core-reframed g c) ∙ sym (in_frame h c)

-- a frame call's own checks look at the card that comes next alone
own-frame : (a b n : Card) (h : ℕ) → own a n (frame h) ≡ own b n (frame h)
unfolding own
own-frame a b n h = refl

-- ---- the calls

module _ (c : Card) (g : ℕ) (e : call_number c (frame g) ≡ 0) where
  -- the card after an accepted call
  abbrev pub there : Card
  there = (step c (frame g)).card

  number-next : (h : ℕ) → call_number (next c (frame g)) (frame h) ≡ call_number c (frame h)
  number-next h =
      own-number (next c (frame g)) (frame h) (stays-valid c (frame g) e)
      ∙ ap (λ (n : Card). first (own (next c (frame g)) n (frame h))) (next-through c g h)
      ∙ ap first (own-frame (next c (frame g)) c (next c (frame h)) h)
      ∙ sym (own-number c (frame h) (card-accepted c (frame g) e))

  -- a call from there has the number that it has from the first card
  pub through-number : (h : ℕ) → call_number there (frame h) ≡ call_number c (frame h)
  through-number h = rw (accepted-card c (frame g) e) (number-next h)

  -- and, accepted, gives the card that it gives from the first one
  pub through : (h : ℕ) → call_number c (frame h) ≡ 0 → step there (frame h) ≡ step c (frame h)
  unfolding step settle
  through h f = rw (accepted-card c (frame g) e, number-next h, f, next-through c g h)

  -- back is never refused, and is exact
  pub back : step there (frame c.frame) ≡ given c
  unfolding step settle
  back = through c.frame (ap (λ (a : Answer). a.number) home) ∙ home
    where
      home : step c (frame c.frame) ≡ given c
      home = frame-to-itself c (number-valid c (card-accepted c (frame g) e))

-- Frame shifts add up, over every row and any codes: by way of a third frame is the same as direct, and back is exact. And what is answered
-- for a code and a mark.
use mathlib.Core.Path.{◌≡◌, refl, ap, ◌∙◌}
use mathlib.Core.Bool.{true, false}
use Prim.Native.Nat.{ℕ, suc, ◌<◌, suc-le-suc}
use native.Mathlib.Omega.{arith}
use borrow.Author.Tests.{lt-leb}
use lib.IntN.{ℤ, pos, ◌+ℤ◌, ◌-ℤ◌}
use Rattle.algebra.proofs.Difference.{split, ℤ⊖}
use Rattle.refusal.specs.Refusal.{first}
use Rattle.std.specs.Prelude.{Ok, Err}
use Rattle.refusal.specs.declared.Refusal.{Refusal}
use Rattle.refusal.specs.Answered.{Answered, answered}
use Rattle.refusal.proofs.AnsweredLaws.{some}
use Rattle.mark.specs.declared.Vec3.{Vec3}
use Rattle.mark.specs.Mark.{nowhere, plus, minus, marked}
use Rattle.mark.proofs.LengthLaws.{vec≡}
use Rattle.frames.specs.declared.Terms.{Terms}
use Rattle.frames.specs.Frame.{frame_at, frame_b, frame_shift, frame_gain, known_frame, frame_a, frame_number, no_terms, terms_answer}

onward : (a b c : ℤ) → (b -ℤ a) +ℤ (c -ℤ b) ≡ c -ℤ a
onward a b c = rw (split a, split b, split c) (simp ℤ⊖ (omega arith))

return : (a b : ℤ) → (b -ℤ a) +ℤ (a -ℤ b) ≡ pos 0
return a b = rw (split a, split b) (simp ℤ⊖ (omega arith))

minus-onward : (u v w : Vec3) → plus (minus v u) (minus w v) ≡ minus w u
unfolding plus minus
minus-onward u v w = vec≡ (onward u.x v.x w.x) (onward u.y v.y w.y) (onward u.z v.z w.z)

minus-return : (u v : Vec3) → plus (minus v u) (minus u v) ≡ nowhere
unfolding plus minus
minus-return u v = vec≡ (return u.x v.x) (return u.y v.y) (return u.z v.z)

-- from f to g and on to h is from f to h
pub shift-through : (f g h : ℕ) (epoch : ℤ) (m : Vec3) → plus (frame_shift f g epoch m) (frame_shift g h epoch m) ≡ frame_shift f h epoch m
unfolding frame_shift
shift-through f g h epoch m = minus-onward (frame_at f m epoch) (frame_at g m epoch) (frame_at h m epoch)

-- there and back is nothing
pub shift_back : (f g : ℕ) (epoch : ℤ) (m : Vec3) → plus (frame_shift f g epoch m) (frame_shift g f epoch m) ≡ nowhere
unfolding frame_shift
shift_back f g epoch m = minus-return (frame_at f m epoch) (frame_at g m epoch)

-- the same of what a velocity gains
pub gain-through : (f g h : ℕ) (m : Vec3) → plus (frame_gain f g m) (frame_gain g h m) ≡ frame_gain f h m
unfolding frame_gain
gain-through f g h m = minus-onward (frame_b f m) (frame_b g m) (frame_b h m)

pub gain-back : (f g : ℕ) (m : Vec3) → plus (frame_gain f g m) (frame_gain g f m) ≡ nowhere
unfolding frame_gain
gain-back f g m = minus-return (frame_b f m) (frame_b g m)

-- ---- a frame by its code

-- the last one
abbrev pub last_frame : ℕ
last_frame = 11

pub frame-unknown : (g : ℕ) → last_frame < g → known_frame g ≡ false
unfolding known_frame
frame-unknown g h = lt-leb (suc g) (suc last_frame) (suc-le-suc h)

-- ---- the answers: 3, 6, or A and B

abbrev terms : ℕ → Vec3 → Vec3 → Answered Terms
terms n a b = record { number = n; value = record { a = a; b = b } }

module _ (g : ℕ) (m : Vec3) where
  pub terms-unknown : known_frame g ≡ false → terms 3 nowhere nowhere ≡ terms_answer g m
  unfolding terms_answer frame_number first
  terms-unknown h = rw h

  pub terms-unmarked : known_frame g ≡ true → marked m ≡ false → terms 6 nowhere nowhere ≡ terms_answer g m
  unfolding terms_answer frame_number first
  terms-unmarked h e = rw (h, e)

  pub terms-taken : (a b : Vec3) → known_frame g ≡ true → marked m ≡ true → a ≡ frame_a g m → b ≡ frame_b g m → terms 0 a b ≡ terms_answer g m
  unfolding terms_answer frame_number first
  terms-taken a b h e p q = rw (h, e, p, q)

  -- a known frame at an accepted mark is never refused
  module _ (h : known_frame g ≡ true) (e : marked m ≡ true) where
    pub terms-never : (d : Refusal) → answered no_terms (Err d) ≡ terms_answer g m → ⊥
    unfolding terms_answer frame_number first
    terms-never d q = some d (ap (λ x. x.number) q ∙ rw (h, e) refl)

    pub terms-accepted : (t : Terms) → answered no_terms (Ok t) ≡ terms_answer g m → (t.a ≡ frame_a g m) × (t.b ≡ frame_b g m)
    unfolding terms_answer
    terms-accepted t q = (ap (λ x. x.value.a) q ∙ rw (h, e) refl, ap (λ x. x.value.b) q ∙ rw (h, e) refl)

-- A mark's direction: what is answered for a mark, what the answer says of it, and the test of any three numbers; the tide of a pair at a direction.
use mathlib.Core.Path.{◌≡◌, refl, ap, ◌∙◌, subst⁻¹}
use mathlib.Core.Bool.{true, false}
use Prim.Native.Nat.{ℕ, ◌+◌, ◌*◌}
use borrow.Author.Tests.{leb-true, le-leb}
use lib.Dec.{leb}
use Rattle.algebra.proofs.BoolLaws.{both}
use Rattle.std.specs.Prelude.{Ok, Err}
use Rattle.refusal.specs.declared.Refusal.{Refusal}
use Rattle.refusal.specs.declared.Refusal.TheVariants as Is
use Rattle.refusal.specs.Answered.{Answered, answered, number_of}
use Rattle.refusal.proofs.AnsweredLaws.{some}
use Rattle.mark.specs.declared.Vec3.{Vec3}
use Rattle.mark.specs.Mark.{nowhere, squares, length_of, marked, mark_number, mark_answer, sized}
use Rattle.mark.proofs.MarkLaws.{number-marked, accepted-length, mark-accepted, mark-refused}
use Rattle.mark.proofs.SizeLaws.{sized-is, is-sized}
use Rattle.tides.specs.declared.BodyVector.{BodyVector}
use Rattle.tides.specs.Direction.{E, units}
use Rattle.tides.specs.Steps.{Direction}
use Rattle.tides.specs.Aim.{aim_of, directed, pair_answer, pair_at}
use Rattle.tides.proofs.PermanentLaws.{accepted-direction}

-- ---- the test of any three numbers

pub directed-is : (u : Vec3) → directed u ≡ true → Direction u
unfolding directed
directed-is u e =
    let h = both (sized E u) (leb (squares u) (E * E + 344 * E)) e in
    record { each = sized-is E u h.0; whole = leb-true (squares u) (E * E + 344 * E) h.1 }

pub is-directed : (u : Vec3) → Direction u → directed u ≡ true
unfolding directed
is-directed u d = rw (is-sized E u d.each, le-leb (squares u) (E * E + 344 * E) d.whole)

-- every accepted mark's unit vector passes
pub accepted-directed : (m : Vec3) → marked m ≡ true → directed (units (length_of m) m) ≡ true
accepted-directed m e = is-directed (units (length_of m) m) (accepted-direction m e)

-- ---- what is answered for a mark, from its whole length

module _ (m : Vec3) where
  -- no length is answered: the mark's refusal is
  pub no-length : (e : Refusal) → answered 0 (Err e) ≡ mark_answer m → answered nowhere (Err e) ≡ aim_of m
  unfolding aim_of
  no-length e h =
      let n : number_of e ≡ mark_number m = ap (λ (a : Answered ℕ). a.number) h in
      rw (n, mark-refused m (number_of e) n (some e))

  -- one is: it is the mark's
  pub length-marked : (l : ℕ) → answered 0 (Ok l) ≡ mark_answer m → marked m ≡ true
  length-marked l h = mark-accepted m 0 (ap (λ (a : Answered ℕ). a.number) h) refl

  pub aimed : (l : ℕ) (u : Vec3) → answered 0 (Ok l) ≡ mark_answer m → u ≡ units l m → answered nowhere (Ok u) ≡ aim_of m
  unfolding aim_of
  aimed l u h p =
      let k = length-marked l h in
      let q : l ≡ length_of m = ap (λ (a : Answered ℕ). a.value) h ∙ accepted-length m k in
      rw (number-marked m k, k, p, q)

  -- ---- and what the answer says of the mark

  pub aim-marked : (u : Vec3) → answered nowhere (Ok u) ≡ aim_of m → marked m ≡ true
  unfolding aim_of
  aim-marked u h = mark-accepted m 0 (ap (λ (a : Answered Vec3). a.number) h) refl

  pub aim-is : (u : Vec3) → answered nowhere (Ok u) ≡ aim_of m → u ≡ units (length_of m) m
  unfolding aim_of
  aim-is u h =
      let k = aim-marked u h in
      ap (λ (a : Answered Vec3). a.value) h ∙ rw k

  pub aim-direction : (u : Vec3) → answered nowhere (Ok u) ≡ aim_of m → Direction u
  aim-direction u h = subst⁻¹ Direction (aim-is u h) (accepted-direction m (aim-marked u h))

  pub aim-number : (e : Refusal) → answered nowhere (Err e) ≡ aim_of m → number_of e ≡ mark_number m
  unfolding aim_of
  aim-number e h = ap (λ (a : Answered Vec3). a.number) h

  pub aim-unmarked : (e : Refusal) → answered nowhere (Err e) ≡ aim_of m → marked m ≡ false
  aim-unmarked e h = mark-refused m (number_of e) (aim-number e h) (some e)

-- ---- the tide of a pair

pub pair-directed : (u : Vec3) (v w : BodyVector) → directed u ≡ true → pair_answer u v w ≡ pair_at u v w
unfolding pair_at
pair-directed u v w e = rw e

pub pair-undirected : (u : Vec3) (v w : BodyVector) → directed u ≡ false → answered nowhere (Err Is.Mark) ≡ pair_at u v w
unfolding pair_at
pair-undirected u v w e = rw e

-- What an answer says tells the answer: its refusal by the number, its value where it is accepted.
use mathlib.Core.Path.{◌≡◌, refl, sym, ◌∙◌, ap}
use mathlib.Core.Bool.{Bool, true, false, cond}
use mathlib.Core.List.{List, [], ◌∷◌}
use native.Mathlib.Omega.{arith}
use Prim.Native.Nat.{ℕ, zero, suc, ◌<◌}
use lib.ListN.{get_or}
use Rattle.std.specs.Prelude.{Result, Ok, Err, ⊤}
use Rattle.refusal.specs.declared.Refusal.{Refusal}
use Rattle.refusal.specs.declared.Refusal.TheVariants as Is
use Rattle.refusal.specs.declared.Refused.{Refused}
use Rattle.refusal.specs.Answered.{number_of, number, answered, counted}

-- the refusals by number, from 1
abbrev in-order : List Refusal
in-order =
    Is.Length ∷ Is.Site ∷ Is.Frame ∷ Is.TideByte ∷ Is.Epoch ∷ Is.Mark ∷ Is.Velocity ∷ Is.Position ∷ Is.StoredTide ∷ Is.BodyNotFinite ∷ Is.BodyDistance ∷ Is.TideState ∷ Is.MoveUnderSolidTide ∷ Is.CatalogueLength ∷ Is.NoSuchSite ∷ Is.SeriesLength ∷ Is.BodyPair ∷ []

abbrev refusal_of : ℕ → Refusal
refusal_of n = get_or (Is.Length ∷ in-order) n Is.Length

back : (e : Refusal) → refusal_of (number_of e) ≡ e
back Is.Length = refl
back Is.Site = refl
back Is.Frame = refl
back Is.TideByte = refl
back Is.Epoch = refl
back Is.Mark = refl
back Is.Velocity = refl
back Is.Position = refl
back Is.StoredTide = refl
back Is.BodyNotFinite = refl
back Is.BodyDistance = refl
back Is.TideState = refl
back Is.MoveUnderSolidTide = refl
back Is.CatalogueLength = refl
back Is.NoSuchSite = refl
back Is.SeriesLength = refl
back Is.BodyPair = refl

-- a number is one refusal's
pub only : (d e : Refusal) → number_of d ≡ number_of e → d ≡ e
only d e h = sym (back d) ∙ ap refusal_of h ∙ back e

-- no refusal's number is 0
pub some : (e : Refusal) → number_of e ≡ 0 → ⊥
some e = go e
  where
    one : (n : ℕ) → ◌≡◌ {A = ℕ} (suc n) 0 → ⊥
    one n p = omega (arith, p)

    go : (d : Refusal) → number_of d ≡ 0 → ⊥
    go Is.Length p = one 0 p
    go Is.Site p = one 1 p
    go Is.Frame p = one 2 p
    go Is.TideByte p = one 3 p
    go Is.Epoch p = one 4 p
    go Is.Mark p = one 5 p
    go Is.Velocity p = one 6 p
    go Is.Position p = one 7 p
    go Is.StoredTide p = one 8 p
    go Is.BodyNotFinite p = one 9 p
    go Is.BodyDistance p = one 10 p
    go Is.TideState p = one 11 p
    go Is.MoveUnderSolidTide p = one 12 p
    go Is.CatalogueLength p = one 13 p
    go Is.NoSuchSite p = one 14 p
    go Is.SeriesLength p = one 15 p
    go Is.BodyPair p = one 16 p

-- two answers that say the same are the same
pub same : {A : Type 0} (z : A) (r s : Result A Refusal) → answered z r ≡ answered z s → r ≡ s
same z (Ok a) (Ok b) h = ap Ok (ap (λ x. x.value) h)
same z (Ok a) (Err e) h = absurd (some e (sym (ap (λ x. x.number) h)))
same z (Err d) (Ok b) h = absurd (some d (ap (λ x. x.number) h))
same z (Err d) (Err e) h = ap Err (only d e (ap (λ x. x.number) h))

pub same-number : (r s : Result ⊤ Refusal) → number r ≡ number s → r ≡ s
same-number (Ok a) (Ok b) h = refl
same-number (Ok a) (Err e) h = absurd (some e (sym h))
same-number (Err d) (Ok a) h = absurd (some d h)
same-number (Err d) (Err e) h = ap Err (only d e h)

-- an answer that a condition chooses tells the condition, and what it chose
pub kept : {A : Type 0} (b : Bool) (a x : A) (d : Refusal) → ◌≡◌ {A = Result A Refusal} (cond b (Ok a) (Err d)) (Ok x) → (b ≡ true) × (x ≡ a)
kept true a x d h = (refl, cc)
kept false a x d h = absurd (cc)

pub dropped : {A : Type 0} (b : Bool) (a : A) (d e : Refusal) → ◌≡◌ {A = Result A Refusal} (cond b (Ok a) (Err d)) (Err e) → (b ≡ false) × (e ≡ d)
dropped true a d e h = absurd (cc)
dropped false a d e h = (refl, cc)

-- what a refusal's number is, is above 0
pub above : (e : Refusal) (n : ℕ) → number_of e ≡ n → 0 < n
above e zero h = absurd (some e h)
above e (suc n) h = omega arith

-- the two ways to say an answer's number
pub number-answered : {A : Type 0} (z : A) (r : Result A Refusal) → number r ≡ (answered z r).number
number-answered z (Ok a) = refl
number-answered z (Err e) = refl

-- the same of a count, or a refusal and its place
pub same-counted : (r s : Result ℕ Refused) → counted r ≡ counted s → r ≡ s
same-counted (Ok n) (Ok k) h = ap Ok (ap (λ x. x.1) h)
same-counted (Ok n) (Err e) h = absurd (some e.refusal (sym (ap (λ x. x.0) h)))
same-counted (Err d) (Ok k) h = absurd (some d.refusal (ap (λ x. x.0) h))
same-counted (Err d) (Err e) h = ap Err (λ i. record { refusal = only d.refusal e.refusal (ap (λ x. x.0) h) i; place = ap (λ x. x.1) h i })

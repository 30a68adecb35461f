-- Refusals by table: a number is given exactly when its condition is the first met.
--
-- Places count from 0, since a number can stand at two of them. `exactly` says it of every number that is given, `accepted` of 0; `stays` and
-- `onward` are for a table in two parts, such as a card's own checks and then the call's.
use mathlib.Core.Path.{◌≡◌, refl, ◌∙◌}
use mathlib.Core.Logic.{◌↔◌}
use mathlib.Core.Bool.{Bool, true, false, ◌&&◌, true≢false, false≢true, not}
use mathlib.Core.List.{[], ◌∷◌, ◌++◌}
use Prim.Native.Nat.{ℕ, zero, suc, ◌<◌}
use native.Mathlib.Nat.{not-suc-le-zero}
use native.Mathlib.Omega.{arith}
use borrow.Author.Tests.{ltb-true, eq-eqb, eqb-true, ne_eqb}
use lib.Dec.{ltb, eqb}
use lib.ListN.{length, get_or}
use Rattle.algebra.proofs.BoolLaws.{both}
use Rattle.refusal.specs.Refusal.{Table, choose, first}

-- the number and the condition at place k; past the end no condition holds
abbrev pub number_at : Table → ℕ → ℕ
number_at t k = (get_or t k (0, false)).0

abbrev pub holds_at : Table → ℕ → Bool
holds_at t k = (get_or t k (0, false)).1

-- place k is the first whose condition holds, and its number is n
pub record Met (t : Table) (k n : ℕ) : Type 0 where
  pub inside : k < length t
  pub number : number_at t k ≡ n
  pub holds : holds_at t k ≡ true
  pub before : (i : ℕ) → i < k → holds_at t i ≡ false

abbrev pub NoneHolds : Table → Type 0
NoneHolds t = (k : ℕ) → k < length t → holds_at t k ≡ false

-- every number of the table is positive: of a written table this is `refl`
unfoldable pub positive : Table → Bool
positive [] = true
positive (e ∷ t) = ltb 0 e.0 && positive t

-- ---- one entry more

choose_yes : (b : Bool) (n r : ℕ) → b ≡ true → choose b n r ≡ n
choose_yes true n r e = refl
choose_yes false n r e = absurd (false≢true e)

choose_no : (b : Bool) (n r : ℕ) → b ≡ false → choose b n r ≡ r
choose_no true n r e = absurd (true≢false e)
choose_no false n r e = refl

now : (m n : ℕ) (t : Table) → m ≡ n → Met ((m, true) ∷ t) 0 n
now m n t e = record { inside = omega arith; number = e; holds = refl; before = λ i h. absurd (not-suc-le-zero h) }

none_more : (m : ℕ) (t : Table) (k : ℕ) → ((i : ℕ) → i < k → holds_at t i ≡ false) → (i : ℕ) → i < suc k → holds_at ((m, false) ∷ t) i ≡ false
none_more m t k h zero l = refl
none_more m t k h (suc i) l = h i (omega arith)

later : (m : ℕ) (t : Table) (k n : ℕ) → Met t k n → Met ((m, false) ∷ t) (suc k) n
later m t k n h =
    let l : k < length t = h.inside in
    record { inside = omega arith; number = h.number; holds = h.holds; before = none_more m t k h.before }

earlier : (e : ℕ × Bool) (t : Table) (k n : ℕ) → Met (e ∷ t) (suc k) n → Met t k n
earlier e t k n h =
    let l : suc k < suc (length t) = h.inside in
    record { inside = omega arith; number = h.number; holds = h.holds; before = λ i l. h.before (suc i) (omega arith) }

-- ---- exactly when

met_of : (t : Table) (n : ℕ) → 0 < n → first t ≡ n → (k : ℕ) × Met t k n
unfolding first
met_of [] n h p = absurd (omega arith)
met_of (e ∷ t) n h p = go e.1 p (met_of t n h)
  where
    go : (b : Bool) → choose b e.0 (first t) ≡ n → (first t ≡ n → (k : ℕ) × Met t k n) → (k : ℕ) × Met ((e.0, b) ∷ t) k n
    go true q r = (0, now e.0 n t q)
    go false q r = let m = r q in (suc m.0, later e.0 t m.0 n m.1)

first_of : (t : Table) (k n : ℕ) → Met t k n → first t ≡ n
unfolding first
first_of [] k n h = absurd (not-suc-le-zero h.inside)
first_of (e ∷ t) zero n h = choose_yes e.1 e.0 (first t) h.holds ∙ h.number
first_of (e ∷ t) (suc k) n h = choose_no e.1 e.0 (first t) (h.before 0 (omega arith)) ∙ first_of t k n (earlier e t k n h)

-- a number is given exactly when it stands at a place whose condition is the first met
pub exactly : (t : Table) (n : ℕ) → 0 < n → (first t ≡ n) ↔ ((k : ℕ) × Met t k n)
exactly t n h = (met_of t n h, λ m. first_of t m.0 n m.1)

none_of : (t : Table) → positive t ≡ true → first t ≡ 0 → NoneHolds t
unfolding first positive
none_of [] p q k l = absurd (not-suc-le-zero l)
none_of (e ∷ t) p q k l = go e.1 (both (ltb 0 e.0) (positive t) p) q (none_of t) k l
  where
    go : (b : Bool) → (ltb 0 e.0 ≡ true) × (positive t ≡ true) → choose b e.0 (first t) ≡ 0 → (positive t ≡ true → first t ≡ 0 → NoneHolds t) → NoneHolds ((e.0, b) ∷ t)
    go true s c r k l = let h : 0 < e.0 = ltb-true 0 e.0 s.0 in absurd (omega arith)
    go false s c r k l = none_more e.0 t (length t) (r s.1 c) k l

zero_of : (t : Table) → NoneHolds t → first t ≡ 0
unfolding first
zero_of [] h = refl
zero_of (e ∷ t) h = choose_no e.1 e.0 (first t) (h 0 (omega arith)) ∙ zero_of t (λ k l. h (suc k) (omega arith))

-- 0 is given exactly when no condition holds
pub accepted : (t : Table) → positive t ≡ true → (first t ≡ 0) ↔ NoneHolds t
accepted t p = (none_of t p, zero_of t)

-- ---- a table in two parts

-- a refusal of the first part stays
pub stays : (t u : Table) → 0 < first t → first (t ++ u) ≡ first t
unfolding first
stays [] u h = absurd (not-suc-le-zero h)
stays (e ∷ t) u h = go e.1 h (stays t u)
  where
    go : (b : Bool) → 0 < choose b e.0 (first t) → (0 < first t → first (t ++ u) ≡ first t) → choose b e.0 (first (t ++ u)) ≡ choose b e.0 (first t)
    go true p r = refl
    go false p r = r p

-- past a first part of which no condition holds, the second decides
pub past : (t u : Table) → NoneHolds t → first (t ++ u) ≡ first u
unfolding first
past [] u h = refl
past (e ∷ t) u h = choose_no e.1 e.0 (first (t ++ u)) (h 0 (omega arith)) ∙ past t u (λ k l. h (suc k) (omega arith))

-- where the first part is accepted, the second decides
pub onward : (t u : Table) → positive t ≡ true → first t ≡ 0 → first (t ++ u) ≡ first u
onward t u p q = past t u ((accepted t p).0 q)

pub stopped : (n : ℕ) (b : Bool) (t : Table) → b ≡ false → n ≡ first ((n, not b) ∷ t)
unfolding first
stopped n b t e = rw e

-- ---- a table that starts with the length

pub past-length : (n l : ℕ) (t : Table) → n ≡ l → first ((1, not (eqb n l)) ∷ t) ≡ first t
unfolding first
past-length n l t e = rw (eq-eqb n l e)

pub of_length : (n l : ℕ) (t : Table) → first ((1, not (eqb n l)) ∷ t) ≡ 0 → (n ≡ l) × (first t ≡ 0)
unfolding first
of_length n l t e = let r = go (eqb n l) e in (eqb-true n l r.0, r.1)
  where
    go : (b : Bool) → choose (not b) 1 (first t) ≡ 0 → (b ≡ true) × (first t ≡ 0)
    go true e = (refl, e)
    go false e = absurd (omega arith)

pub wrong-length : (n l : ℕ) (t : Table) → (n ≡ l → ⊥) → 1 ≡ first ((1, not (eqb n l)) ∷ t)
wrong-length n l t h = stopped 1 (eqb n l) t (ne_eqb n l h)

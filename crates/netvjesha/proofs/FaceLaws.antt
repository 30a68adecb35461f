-- What the face answers, from the output's length, the record that was read and the call's answer.
use mathlib.Core.Path.{◌≡◌, refl, sym, ap, ◌∙◌}
use mathlib.Core.Bool.{Bool, true, false, not, cond}
use mathlib.Core.List.{List, [], ◌∷◌}
use Prim.Native.Nat.{ℕ, ◌≤◌, ◌<◌}
use borrow.Author.Tests.{eq-eqb, ne_eqb, le-leb, lt-leb}
use lib.Dec.{eqb, leb}
use lib.ListN.{length}
use Rattle.refusal.specs.Refusal.{first}
use Rattle.refusal.specs.Outputs.{before, kept}
use Rattle.refusal.proofs.RefusalLaws.{onward}
use Rattle.refusal.proofs.OutputLaws.{one, too_short, long-enough, refused-before, passed-before, keeps}
use Rattle.tides.specs.declared.BodyVector.{BodyVector}
use Rattle.tides.specs.declared.Body.TheVariants.{Moon, Sun}
use Rattle.tides.specs.Bodies.{paired}
use Rattle.head.specs.State.{state_of}
use Rattle.card.specs.declared.Card.{Card}
use Rattle.card.specs.declared.Answer.{Answer}
use Rattle.card.specs.Checks.{checks, card_number}
use Rattle.card.specs.Zero.{zero_card}
use Rattle.card.specs.Calls.{solid_on, next, own, call_number}
use Rattle.card.proofs.CheckLaws.{positive-checks}
use Rattle.codec.specs.Codec.{decode, read_number, read_card}
use Rattle.codec.specs.Opened.{put_number, put_out}
use Rattle.codec.proofs.OpenedLaws.{put-settled}
use Rattle.field.specs.Field.{field_of, field_number, opened_of, expanded_of, expand_card, export_number, exported, field_length}
use Rattle.netvjesha.specs.Face.{body_of, solid_call, exported_number, exported_out, expanded_number, expanded_out}
use Rattle.netvjesha.specs.Steps.{labelled}
use Rattle.std.specs.Prelude.{Ok, Err}
use Rattle.refusal.specs.declared.Refusal.{Refusal}
use Rattle.refusal.specs.Answered.{number_of}
use Rattle.refusal.proofs.AnsweredLaws.{some}
use Rattle.card.specs.Zero.{answer_of}

-- ---- what a read gives

pub number_read : (s : List ℕ) (e : Refusal) → answer_of (Err e) ≡ read_card s → number_of e ≡ read_number s
unfolding read_card
number_read s e q = ap (λ (x : Answer). x.number) q

pub read-zero : (s : List ℕ) (c : Card) → answer_of (Ok c) ≡ read_card s → 0 ≡ read_number s
unfolding read_card
read-zero s c q = ap (λ (x : Answer). x.number) q

taken-read : (s : List ℕ) → read_number s ≡ 0 → (read_card s).card ≡ decode s
unfolding read_card
taken-read s h = rw h

pub card-read : (s : List ℕ) (c : Card) → answer_of (Ok c) ≡ read_card s → c ≡ decode s
card-read s c q = ap (λ (x : Answer). x.card) q ∙ taken-read s (sym (read-zero s c q))

-- refused with n, the output is kept
pub unchanged : {A : Type 0} (n m : ℕ) (new old : List A) → n ≡ m → (n ≡ 0 → ⊥) → (n ≡ m) × (old ≡ kept m new old)
unchanged n m new old e h = (e, keeps n m new old e h)

-- ---- labels

module _ (k l : ℕ) (v w : BodyVector) where
  first-other : 1 < k → solid_on (Moon v) (Moon v) ≡ solid_call k v l w
  unfolding solid_call
  first-other h = rw (lt-leb k 1 h)

  second-other : k ≤ 1 → 1 < l → solid_on (Moon v) (Moon v) ≡ solid_call k v l w
  unfolding solid_call
  second-other g h = rw (le-leb k 1 g, lt-leb l 1 h)

  -- both bodies by their labels are the call
  pub solid-labelled : solid_on (labelled k l k v v) (labelled k l l v w) ≡ solid_call k v l w
  unfolding solid_call labelled
  solid-labelled = go (leb k 1) (leb l 1)
    where
      go : (a b : Bool)
          → solid_on (cond a (cond b (body_of k v) (Moon v)) (Moon v)) (cond a (cond b (body_of l w) (Moon v)) (Moon v))
          ≡ cond a (cond b (solid_on (body_of k v) (body_of l w)) (solid_on (Moon v) (Moon v))) (solid_on (Moon v) (Moon v))
      go true true = refl
      go true false = refl
      go false b = refl

  -- what the step answers, a test at a time
  module _ (n : ℕ) where
    pub labelled-first : 1 < k → Moon v ≡ labelled k l n v w
    unfolding labelled
    labelled-first h = rw (lt-leb k 1 h)

    pub labelled-second : k ≤ 1 → 1 < l → Moon v ≡ labelled k l n v w
    unfolding labelled
    labelled-second g h = rw (le-leb k 1 g, lt-leb l 1 h)

    pub labelled-sun : k ≤ 1 → l ≤ 1 → n ≡ 1 → Sun w ≡ labelled k l n v w
    unfolding labelled body_of
    labelled-sun g h e = rw (le-leb k 1 g, le-leb l 1 h, eq-eqb n 1 e)

    pub labelled-moon : k ≤ 1 → l ≤ 1 → (n ≡ 1 → ⊥) → Moon w ≡ labelled k l n v w
    unfolding labelled body_of
    labelled-moon g h e = rw (le-leb k 1 g, le-leb l 1 h, ne_eqb n 1 e)

two-moons : (c : Card) (v : BodyVector) → card_number c ≡ 0 → call_number c (solid_on (Moon v) (Moon v)) ≡ first ((12, not (eqb (state_of c.tide) 0)) ∷ (17, true) ∷ [])
unfolding call_number card_number own first paired
two-moons c v h = onward (checks true c) (own c (next c (solid_on (Moon v) (Moon v))) (solid_on (Moon v) (Moon v))) (positive-checks true c) h

-- a label that is neither Moon nor Sun, on an accepted card: 12 where a tide is on, else 17
pub label-refused : (c : Card) (k l : ℕ) (v w : BodyVector) → card_number c ≡ 0 → 1 < k → call_number c (solid_call k v l w) ≡ first ((12, not (eqb (state_of c.tide) 0)) ∷ (17, true) ∷ [])
label-refused c k l v w h g = sym (ap (call_number c) (first-other k l v w g)) ∙ two-moons c v h

pub label-refused-2 : (c : Card) (k l : ℕ) (v w : BodyVector) → card_number c ≡ 0 → k ≤ 1 → 1 < l → call_number c (solid_call k v l w) ≡ first ((12, not (eqb (state_of c.tide) 0)) ∷ (17, true) ∷ [])
label-refused-2 c k l v w h g f = sym (ap (call_number c) (second-other k l v w g f)) ∙ two-moons c v h

-- ---- the field edition

module _ (s out : List ℕ) where
  pub export-short : (length out ≡ field_length → ⊥) → (1 ≡ exported_number (length out) s) × (out ≡ exported_out out s)
  unfolding exported_number exported_out
  export-short h = unchanged 1 _ _ out (too_short field_length (length out) (before (read_number s) (export_number (decode s) (length out))) h) one

  pub export-unread : (d : Refusal) → length out ≡ field_length → answer_of (Err d) ≡ read_card s → (number_of d ≡ exported_number (length out) s) × (out ≡ exported_out out s)
  unfolding exported_number exported_out
  export-unread d l r =
      let n = number_read s d r in
      unchanged (number_of d) _ _ out (n ∙ refused-before (read_number s) (export_number (decode s) (length out)) (λ z. some d (n ∙ z)) ∙ long-enough field_length (length out) _ l) (some d)

  export_is : length out ≡ field_length → read_number s ≡ 0 → export_number (decode s) (length out) ≡ exported_number (length out) s
  unfolding exported_number
  export_is l h = passed-before (read_number s) (export_number (decode s) (length out)) h ∙ long-enough field_length (length out) (before (read_number s) (export_number (decode s) (length out))) l

  pub export-called : (c : Card) (n : ℕ) (e : List ℕ) → length out ≡ field_length → answer_of (Ok c) ≡ read_card s
      → n ≡ export_number c (length out) → e ≡ exported c out
      → (n ≡ exported_number (length out) s) × (e ≡ exported_out out s)
  unfolding exported exported_out
  export-called c n e l r p q =
      let d = card-read s c r in
      let i = export_is l (sym (read-zero s c r)) in (
        p ∙ ap (λ (x : Card). export_number x (length out)) d ∙ i,
        q ∙ ap (λ (x : Card). exported x out) d ∙ ap (λ (m : ℕ). kept m (field_of (decode s)) out) i,
      )

  pub expand-called : (b : Answer) (n : ℕ) (e : List ℕ) → b ≡ expand_card s → (n ≡ put_number b (length out)) × (e ≡ put_out b out)
      → (n ≡ expanded_number (length out) s) × (e ≡ expanded_out out s)
  unfolding expand_card put_number expanded_number expanded_out
  expand-called b n e f h = (
    h.0 ∙ ap (λ (x : Answer). put_number x (length out)) f,
    h.1 ∙ ap (λ (x : Answer). put_out x out) f ∙ put-settled (field_number s) (expanded_of (opened_of s)) zero_card out,
  )

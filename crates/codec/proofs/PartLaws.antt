-- The parts of bytes: none of no bytes, else the first and those of the rest; bytes that end with a whole part, and what follows them.
use mathlib.Core.Path.{◌≡◌, refl, sym, ap, ap₂, ◌∙◌}
use mathlib.Core.List.{List, [], ◌∷◌, ◌++◌}
use Prim.Native.Nat.{ℕ, zero, suc, ◌+◌, ◌*◌, ◌/◌, ◌%◌, ◌≤◌, ◌<◌}
use native.Mathlib.Omega.{arith}
use lib.ListN.{length, take, drop, length-append, length-drop}
use lib.Seq.{drop-drop, take-append-le, drop-append-le}
use Rattle.codec.specs.Codec.{card_length}
use Rattle.codec.specs.Parts.{parts_from, part_count, parts}

-- from a place on are those of the rest from its start
from-rest : (s : List ℕ) (at b n : ℕ) → parts_from s (at + b) n ≡ parts_from (drop at s) b n
unfolding parts_from
from-rest s at b zero = refl
from-rest s at b (suc n) =
    let e : at + b + card_length ≡ at + (b + card_length) = omega arith in
    ap₂ ◌∷◌ (ap (take card_length) (sym (drop-drop b at s))) (ap (λ (k : ℕ). parts_from s k n) e ∙ from-rest s at (b + card_length) n)

count_none : (s : List ℕ) → length s ≡ 0 → part_count s ≡ 0
unfolding part_count
count_none s h = omega arith

count-some : (s : List ℕ) → 0 < length s → part_count s ≡ suc (part_count (drop card_length s))
unfolding part_count
count-some s h = simp length-drop (omega arith)

pub parts_none : (s : List ℕ) → length s ≡ 0 → parts s ≡ []
unfolding parts parts_from
parts_none s h = ap (parts_from s 0) (count_none s h)

pub parts-some : (s : List ℕ) → 0 < length s → parts s ≡ take card_length s ∷ parts (drop card_length s)
unfolding parts parts_from
parts-some s h =
    ap (parts_from s 0) (count-some s h)
    ∙ ap (λ (r : List (List ℕ)). take card_length s ∷ r) (from-rest s card_length 0 (part_count (drop card_length s)))

-- whole parts, and what follows them: k is how many
parts-after : (k : ℕ) (a b : List ℕ) → length a ≡ k * card_length → parts (a ++ b) ≡ parts a ++ parts b
parts-after zero [] b h = sym (ap (λ (r : List (List ℕ)). r ++ parts b) (parts_none [] refl))
parts-after zero (x ∷ a) b h = absurd (omega arith)
parts-after (suc k) a b h =
    let l : card_length ≤ length a = omega arith in
    parts-some (a ++ b) (simp length-append (omega arith))
    ∙ ap₂ ◌∷◌ (take-append-le card_length a b l)
    (ap parts (drop-append-le card_length a b l) ∙ parts-after k (drop card_length a) b (simp length-drop (omega arith)))
    ∙ ap (λ (r : List (List ℕ)). r ++ parts b) (sym (parts-some a (omega arith)))

pub parts-append : (a b : List ℕ) → length a % card_length ≡ 0 → parts (a ++ b) ≡ parts a ++ parts b
parts-append a b h = parts-after (length a / card_length) a b (omega arith)

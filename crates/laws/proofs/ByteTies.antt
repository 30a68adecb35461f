-- Ties over bytes: what holds of two cards through one list holds of two records that have the same calls, each accepted by both or refused by both.
use mathlib.Core.Path.{◌≡◌, refl, sym, ◌∙◌, ap, ap₂, subst}
use mathlib.Core.List.{List, [], ◌∷◌}
use Prim.Native.Nat.{ℕ}
use Rattle.octets.proofs.OctetLaws.{Bytes}
use Rattle.mark.specs.Mark.{plus, scaled}
use Rattle.card.specs.declared.Card.{Card}
use Rattle.card.specs.Checks.{Valid}
use Rattle.codec.specs.Codec.{encode, decode, read_number}
use Rattle.laws.specs.Lists.{run, numbers, verdicts, net, Still}
use Rattle.laws.specs.ByteLists.{Lent, Roomy, calls_of, run_bytes, numbers_bytes, each}
use Rattle.laws.specs.TwoCards.{Alike, Agree, between, parting}
use Rattle.laws.specs.TwoRecords.{Together, each_of}
use Rattle.laws.proofs.ByteLists.{byte-numbers, byte-card, numbers-encoded, encoded-card}
use Rattle.laws.proofs.TwoCardLaws.{run-agreed, difference-agreed, velocity-agreed, difference-still}

-- ---- a record that does as its card does, through every list

pub record Follows (s : List ℕ) (c : Card) : Type 0 where
  pub numbers : (ls : List Lent) → Roomy ls → numbers_bytes s ls ≡ numbers c (calls_of ls)
  pub card : (ls : List Lent) → Roomy ls → decode (run_bytes s ls) ≡ run c (calls_of ls)

pub read-follows : (s : List ℕ) → Bytes s → read_number s ≡ 0 → Follows s (decode s)
read-follows s b e = record { numbers = byte-numbers s b e; card = byte-card s b e }

pub encoded-follows : (c : Card) → Valid c → Follows (encode c) c
encoded-follows c v = record { numbers = λ ls h. numbers-encoded c ls v h; card = λ ls h. encoded-card c ls v h }

-- ---- two records and their cards

module _ (s s' : List ℕ) (c c' : Card) (f : Follows s c) (f' : Follows s' c') (ls ls' : List Lent) (t : Together s s' ls ls') where
  pub agree : Agree c c' (calls_of ls)
  agree =
      ap verdicts (sym (f.numbers ls t.roomy))
      ∙ t.outcomes
      ∙ ap verdicts (f'.numbers ls' t.roomy' ∙ ap (numbers c') (sym t.calls))

  -- what holds of the last cards holds of what the last records are read as
  pub of-both : (P : Card → Card → Type 0) → P (run c (calls_of ls)) (run c' (calls_of ls)) → P (decode (run_bytes s ls)) (decode (run_bytes s' ls'))
  of-both P = subst (λ (p : Card × Card). P p.0 p.1)
      (ap₂ (λ (d d' : Card). (d, d')) (sym (f.card ls t.roomy)) (ap (run c') t.calls ∙ sym (f'.card ls' t.roomy')))

-- ---- the ties, from any two accepted records with alike cards

module _
    (s s' : List ℕ) (b : Bytes s) (b' : Bytes s') (e : read_number s ≡ 0) (e' : read_number s' ≡ 0) (a : Alike (decode s) (decode s'))
    (ls ls' : List Lent) (t : Together s s' ls ls') where
  same : Agree (decode s) (decode s') (calls_of ls)
  same = agree s s' (decode s) (decode s') (read-follows s b e) (read-follows s' b' e') ls ls' t

  of-records :
      (P : Card → Card → Type 0)
      → P (run (decode s) (calls_of ls)) (run (decode s') (calls_of ls))
      → P (decode (run_bytes s ls)) (decode (run_bytes s' ls'))
  of-records = of-both s s' (decode s) (decode s') (read-follows s b e) (read-follows s' b' e') ls ls' t

  pub byte-tie :
      between (decode (run_bytes s ls)) (decode (run_bytes s' ls'))
      ≡ plus (between (decode s) (decode s')) (scaled (net (decode s) (calls_of ls)) (parting (decode s) (decode s')))
  byte-tie =
      of-records (λ (d d' : Card). between d d' ≡ plus (between (decode s) (decode s')) (scaled (net (decode s) (calls_of ls)) (parting (decode s) (decode s'))))
      (difference-agreed (decode s) (decode s') (calls_of ls) a same)

  pub byte-still : Still (calls_of ls) → between (decode (run_bytes s ls)) (decode (run_bytes s' ls')) ≡ between (decode s) (decode s')
  byte-still h =
      of-records (λ (d d' : Card). between d d' ≡ between (decode s) (decode s')) (difference-still (decode s) (decode s') (calls_of ls) a same h)

  pub byte-velocity : parting (decode (run_bytes s ls)) (decode (run_bytes s' ls')) ≡ parting (decode s) (decode s')
  byte-velocity =
      of-records (λ (d d' : Card). parting d d' ≡ parting (decode s) (decode s')) (velocity-agreed (decode s) (decode s') (calls_of ls) a same)

  pub byte-alike : Alike (decode (run_bytes s ls)) (decode (run_bytes s' ls'))
  byte-alike = of-records Alike (run-agreed (decode s) (decode s') (calls_of ls) a same)

-- ---- accepted in full by both is one case

each-call : (n : ℕ) (ls : List Lent) → each_of n (calls_of ls) ≡ each n ls
unfolding each each_of calls_of
each-call n [] = refl
each-call n (l ∷ ls) = ap (λ (ns : List ℕ). n ∷ ns) (each-call n ls)

pub accepted-together :
    (s s' : List ℕ) (ls ls' : List Lent)
    → Roomy ls
    → Roomy ls'
    → calls_of ls ≡ calls_of ls'
    → numbers_bytes s ls ≡ each 0 ls
    → numbers_bytes s' ls' ≡ each 0 ls'
    → Together s s' ls ls'
accepted-together s s' ls ls' h h' k a a' =
    record { roomy = h; roomy' = h'; calls = k; outcomes = ap verdicts (a ∙ sym (each-call 0 ls) ∙ ap (each_of 0) k ∙ each-call 0 ls' ∙ sym a') }

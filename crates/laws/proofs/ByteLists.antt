-- Any list of calls over bytes: the numbers and the last record are those of the card's list, so each theorem of the list holds for them.
use mathlib.Core.Path.{◌≡◌, refl, sym, ◌∙◌, ap, ap₂}
use mathlib.Core.Bool.{Bool, true, false, cond}
use mathlib.Core.List.{List, [], ◌∷◌}
use Prim.Native.Nat.{ℕ}
use lib.Dec.{eqb}
use lib.ListN.{length}
use Rattle.refusal.specs.Outputs.{before, kept}
use Rattle.refusal.proofs.OutputLaws.{long-enough, refused-before, passed-before, keeps}
use Rattle.octets.proofs.OctetLaws.{Bytes}
use Rattle.card.specs.declared.Card.{Card}
use Rattle.card.specs.Checks.{card_number, Valid}
use Rattle.card.specs.Calls.{Call, next, call_number, settle, step}
use Rattle.card.proofs.CheckLaws.{number-valid, valid-number}
use Rattle.codec.specs.Codec.{card_length, encode, decode, read_number}
use Rattle.records.specs.Bytes.{bytes_number, bytes_out}
use Rattle.codec.proofs.CodecLaws.{decode-encode, number-encode, encode-decode, read-accepted}
use Rattle.laws.specs.Lists.{run, numbers, net, accepts, last_frame, last_tides, formula}
use Rattle.laws.specs.ByteLists.{Lent, Roomy, calls_of, lent_number, record_after, run_bytes, numbers_bytes, buffers_after, buffers_of, each}
use Rattle.laws.proofs.StaysValid.{stays-valid, run-valid}
use Rattle.laws.proofs.ListTheorem.{one-formula, same_bytes}

-- ---- one call on the bytes of an accepted card

lent-number : (c : Card) (l : Lent) → card_number c ≡ 0 → length l.out ≡ card_length → lent_number (encode c) l ≡ call_number c l.call
unfolding lent_number bytes_number
lent-number c l e h =
    sym (long-enough card_length (length l.out) (before (read_number (encode c)) (call_number (decode (encode c)) l.call)) h)
    ∙ sym (passed-before (read_number (encode c)) (call_number (decode (encode c)) l.call) (number-encode c e))
    ∙ ap (λ (d : Card). call_number d l.call) (decode-encode c e)

record-after : (c : Card) (l : Lent) → card_number c ≡ 0 → length l.out ≡ card_length → record_after (encode c) l ≡ encode (step c l.call).card
unfolding lent_number record_after bytes_out step settle
record-after c l e h =
    (λ i. let n = lent-number c l e h i in cond (eqb n 0) (kept n (encode (next (decode-encode c e i) l.call)) l.out) (encode c))
    ∙ by (accepts c l.call)
  where
    by : (t : Bool) → cond t (cond t (encode (next c l.call)) l.out) (encode c) ≡ encode (cond t (next c l.call) c)
    by true = refl
    by false = refl

-- ---- any list, from the bytes of an accepted card

pub run-encoded : (c : Card) (ls : List Lent) → Valid c → Roomy ls → run_bytes (encode c) ls ≡ encode (run c (calls_of ls))
unfolding run_bytes run calls_of Roomy
run-encoded c [] v h = refl
run-encoded c (l ∷ ls) v h =
    ap (λ (s : List ℕ). run_bytes s ls) (record-after c l (valid-number c v) h.0)
    ∙ run-encoded (step c l.call).card ls (stays-valid c l.call v) h.1

pub numbers-encoded : (c : Card) (ls : List Lent) → Valid c → Roomy ls → numbers_bytes (encode c) ls ≡ numbers c (calls_of ls)
unfolding numbers_bytes numbers calls_of Roomy
numbers-encoded c [] v h = refl
numbers-encoded c (l ∷ ls) v h =
    ap₂ ◌∷◌ (lent-number c l (valid-number c v) h.0)
    (ap (λ (s : List ℕ). numbers_bytes s ls) (record-after c l (valid-number c v) h.0)
    ∙ numbers-encoded (step c l.call).card ls (stays-valid c l.call v) h.1)

-- the last record is read as the last card
pub encoded-card : (c : Card) (ls : List Lent) → Valid c → Roomy ls → decode (run_bytes (encode c) ls) ≡ run c (calls_of ls)
encoded-card c ls v h =
    let d : Card = run c (calls_of ls) in
    ap decode (run-encoded c ls v h) ∙ decode-encode d (valid-number d (run-valid c (calls_of ls) v))

-- ---- the same from any accepted record: bytes s that read with 0

module _ (s : List ℕ) (b : Bytes s) (e : read_number s ≡ 0) where
  pub decoded-valid : Valid (decode s)
  decoded-valid = number-valid (decode s) (read-accepted s e).card

  pub encoded-back : encode (decode s) ≡ s
  encoded-back = let a = read-accepted s e in encode-decode s a.long b a.zeros

  -- the numbers are those of the calls on the card that was read
  pub byte-numbers : (ls : List Lent) → Roomy ls → numbers_bytes s ls ≡ numbers (decode s) (calls_of ls)
  byte-numbers ls h = ap (λ (r : List ℕ). numbers_bytes r ls) (sym encoded-back) ∙ numbers-encoded (decode s) ls decoded-valid h

  -- the last record is the last card's
  pub byte-run : (ls : List Lent) → Roomy ls → run_bytes s ls ≡ encode (run (decode s) (calls_of ls))
  byte-run ls h = ap (λ (r : List ℕ). run_bytes r ls) (sym encoded-back) ∙ run-encoded (decode s) ls decoded-valid h

  -- it is accepted, and is read as the last card
  pub byte-card : (ls : List Lent) → Roomy ls → decode (run_bytes s ls) ≡ run (decode s) (calls_of ls)
  byte-card ls h =
      ap (λ (r : List ℕ). decode (run_bytes r ls)) (sym encoded-back) ∙ encoded-card (decode s) ls decoded-valid h

  pub byte-accepted : (ls : List Lent) → Roomy ls → read_number (run_bytes s ls) ≡ 0
  byte-accepted ls h =
      let ks : List Call = calls_of ls in
      ap read_number (byte-run ls h) ∙ number-encode (run (decode s) ks) (valid-number (run (decode s) ks) (run-valid (decode s) ks decoded-valid))

  -- one formula from the first record's card, the net accepted move, the final frame and the tides in force
  pub byte-formula :
      (ls : List Lent) → Roomy ls
      → let c = decode s in let ks = calls_of ls in
      run_bytes s ls ≡ encode (formula c (net c ks) (last_frame c ks) (last_tides c ks))
  byte-formula ls h = byte-run ls h ∙ ap encode (one-formula (decode s) (calls_of ls))

  -- two lists that agree in these end in one record, byte by byte
  pub byte-same :
      (ls ms : List Lent) → Roomy ls → Roomy ms
      → let c = decode s in let ks = calls_of ls in let js = calls_of ms in
      net c ks ≡ net c js → last_frame c ks ≡ last_frame c js → last_tides c ks ≡ last_tides c js
      → run_bytes s ls ≡ run_bytes s ms
  byte-same ls ms h g n f t = byte-run ls h ∙ same_bytes (decode s) (calls_of ls) (calls_of ms) n f t ∙ sym (byte-run ms g)

-- ---- from a record that is not accepted: every call gives the record's own number, and nothing changes

module _ (s : List ℕ) (e : read_number s ≡ 0 → ⊥) where
  refused-number : (l : Lent) → length l.out ≡ card_length → lent_number s l ≡ read_number s
  unfolding lent_number bytes_number
  refused-number l h =
      sym (long-enough card_length (length l.out) (before (read_number s) (call_number (decode s) l.call)) h)
      ∙ sym (refused-before (read_number s) (call_number (decode s) l.call) e)

  refused-record : (l : Lent) → length l.out ≡ card_length → record_after s l ≡ s
  unfolding record_after
  refused-record l h = sym (keeps (read_number s) (lent_number s l) (bytes_out l.out s l.call) s (sym (refused-number l h)) e)

  refused-out : (l : Lent) → length l.out ≡ card_length → bytes_out l.out s l.call ≡ l.out
  unfolding lent_number bytes_out
  refused-out l h = sym (keeps (read_number s) (lent_number s l) (encode (next (decode s) l.call)) l.out (sym (refused-number l h)) e)

  pub refused-numbers : (ls : List Lent) → Roomy ls → numbers_bytes s ls ≡ each (read_number s) ls
  unfolding numbers_bytes each Roomy
  refused-numbers [] h = refl
  refused-numbers (l ∷ ls) h =
      ap₂ ◌∷◌ (refused-number l h.0) (ap (λ (r : List ℕ). numbers_bytes r ls) (refused-record l h.0) ∙ refused-numbers ls h.1)

  pub refused-run : (ls : List Lent) → Roomy ls → run_bytes s ls ≡ s
  unfolding run_bytes Roomy
  refused-run [] h = refl
  refused-run (l ∷ ls) h = ap (λ (r : List ℕ). run_bytes r ls) (refused-record l h.0) ∙ refused-run ls h.1

  pub refused-buffers : (ls : List Lent) → Roomy ls → buffers_after s ls ≡ buffers_of ls
  unfolding buffers_after buffers_of Roomy
  refused-buffers [] h = refl
  refused-buffers (l ∷ ls) h =
      ap₂ ◌∷◌ (refused-out l h.0) (ap (λ (r : List ℕ). buffers_after r ls) (refused-record l h.0) ∙ refused-buffers ls h.1)

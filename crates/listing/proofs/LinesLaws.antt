-- The listing of an input: its first line and the listing of the rest; and in turns, of which all but the last are whole parts, the same bytes.
use mathlib.Core.Path.{◌≡◌, refl, sym, ap, ◌∙◌}
use mathlib.Core.List.{List, [], ◌∷◌, ◌++◌, append_assoc, append-nil}
use Prim.Native.Nat.{ℕ, ◌%◌, ◌<◌}
use lib.ListN.{length, take, drop}
use Rattle.codec.specs.Codec.{card_length}
use Rattle.codec.specs.Parts.{parts}
use Rattle.codec.proofs.PartLaws.{parts_none, parts-some, parts-append}
use Rattle.listing.specs.Line.{line_of}
use Rattle.listing.specs.Lines.{lines_of, listing, joined, listings, Whole}

pub listing_none : (s : List ℕ) → length s ≡ 0 → listing s ≡ []
unfolding listing lines_of
listing_none s h = ap lines_of (parts_none s h)

pub listing-some : (s : List ℕ) → 0 < length s → listing s ≡ line_of (take card_length s) ++ listing (drop card_length s)
unfolding listing lines_of
listing-some s h = ap lines_of (parts-some s h)

lines-append : (ps qs : List (List ℕ)) → lines_of (ps ++ qs) ≡ lines_of ps ++ lines_of qs
unfolding lines_of
lines-append [] qs = refl
lines-append (p ∷ ps) qs = ap (λ (r : List ℕ). line_of p ++ r) (lines-append ps qs) ∙ sym (append_assoc (line_of p) (lines_of ps) (lines_of qs))

-- whole parts, and what follows them
pub listing-append : (a b : List ℕ) → length a % card_length ≡ 0 → listing (a ++ b) ≡ listing a ++ listing b
unfolding listing
listing-append a b h = ap lines_of (parts-append a b h) ∙ lines-append (parts a) (parts b)

-- over any number of turns the bytes written are the listing of the bytes read
pub in_turns : (turns : List (List ℕ)) → Whole turns → listings turns ≡ listing (joined turns)
unfolding listings joined Whole
in_turns [] h = sym (listing_none [] refl)
in_turns (turn ∷ []) h = append-nil (listing turn) ∙ ap listing (sym (append-nil turn))
in_turns (turn ∷ next ∷ turns) h =
    ap (λ (r : List ℕ). listing turn ++ r) (in_turns (next ∷ turns) h.1) ∙ sym (listing-append turn (joined (next ∷ turns)) h.0)

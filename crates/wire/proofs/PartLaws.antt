-- Two texts put one after the other: the place after both, and what the buffer holds. Assumes nothing.
use mathlib.Core.Path.{◌≡◌}
use mathlib.Core.List.{List, ◌++◌}
use Prim.Native.Nat.{ℕ, ◌≤◌}
use lib.ListN.{length}
use Rattle.octets.specs.Octets.{splice}
use Rattle.text.specs.Text.{last_place, after}
use Rattle.text.proofs.TextLaws.{Put, put-none, put-more}

both : (out out' out'' : List ℕ) (at at' at'' : ℕ) (a b : List ℕ) → length out ≤ last_place → at ≤ last_place
    → at' ≡ after at (length a) → out' ≡ splice out at a → at'' ≡ after at' (length b) → out'' ≡ splice out' at' b → Put out at (a ++ b) out'' at''
both out out' out'' at at' at'' a b reach start p h q k = put-more b (put-more a (put-none out at reach start) p h) q k

pub place_after : (out out' out'' : List ℕ) (at at' at'' : ℕ) (a b : List ℕ) → length out ≤ last_place → at ≤ last_place
    → at' ≡ after at (length a) → out' ≡ splice out at a → at'' ≡ after at' (length b) → out'' ≡ splice out' at' b → at'' ≡ after at (length (a ++ b))
place_after out out' out'' at at' at'' a b reach start p h q k = (both out out' out'' at at' at'' a b reach start p h q k).place

pub holds_both : (out out' out'' : List ℕ) (at at' at'' : ℕ) (a b : List ℕ) → length out ≤ last_place → at ≤ last_place
    → at' ≡ after at (length a) → out' ≡ splice out at a → at'' ≡ after at' (length b) → out'' ≡ splice out' at' b → out'' ≡ splice out at (a ++ b)
holds_both out out' out'' at at' at'' a b reach start p h q k = (both out out' out'' at at' at'' a b reach start p h q k).holds

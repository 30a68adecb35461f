-- One byte more, and its place.
use mathlib.Core.Path.{refl, sym, ap, ◌∙◌}
use native.Mathlib.Omega.{arith}
use lib.Seq.{drop-cons}
use Rattle.std.proofs.Common.{ℕ, suc, List, ◌≡◌, ◌+◌, ◌≤◌, ◌<◌, length, get_or, set, drop}
use Rattle.std.proofs.Math.ListN.{drop_of_length-le}
use Rattle.octets.specs.Octets.{splice}
use Rattle.octets.proofs.put_bytes.Goals as goal

more : (out out' from all : List ℕ) (at i b : ℕ) → i < length from → b ≡ get_or from i 0 → out' ≡ set out (at + i) b
    → splice out (at + i) (drop i from) ≡ all → splice out' (at + (i + 1)) (drop (i + 1) from) ≡ all
unfolding splice
more out out' from all at i b h x f g =
    let e : i + 1 ≡ suc i = omega arith in
    let k : at + suc i ≡ suc (at + i) = omega arith in
    rw (e, k, f, x) (ap (splice out (at + i)) (sym (drop-cons from i 0 h)) ∙ g)

done : (out from all : List ℕ) (at i : ℕ) → length from ≤ i → splice out (at + i) (drop i from) ≡ all → out ≡ all
unfolding splice
done out from all at i h g = ap (splice out (at + i)) (sym (drop_of_length-le from h)) ∙ g

pub loop-i-preserved : goal.loop-i-preserved
loop-i-preserved c =
    let a = c.args in
    more c.loop-i.out c.put_byte.new.out a.from.now (splice a.out.now a.at a.from.now) a.at c.loop-i.i (get_or a.from.now c.loop-i.i 0) (omega arith) refl
    (cc) c.loop-i.invariant

pub returns : goal.returns
returns c =
    let a = c.args in
    done c.loop-i.out a.from.now (splice a.out.now a.at a.from.now) a.at c.loop-i.i (omega arith) c.loop-i.invariant

-- One byte more, and its two places.
use mathlib.Core.Path.{sym, ap, ◌∙◌}
use native.Mathlib.Omega.{arith}
use lib.Seq.{drop-cons}
use Rattle.std.proofs.Common.{ℕ, suc, List, ◌≡◌, ◌+◌, ◌*◌, ◌/◌, ◌≤◌, ◌<◌, length, get_or, set, drop}
use Rattle.std.proofs.Math.ListN.{drop_of_length-le}
use Rattle.octets.specs.Octets.{splice}
use Rattle.text.specs.Text.{hex_digit, hex_of}
use Rattle.text.proofs.TextLaws.{length-hex}
use Rattle.text.proofs.put_hex.Goals as goal

more : (out out' out'' s all : List ℕ) (at i x y : ℕ) → i < length s → x ≡ hex_digit (get_or s i 0 / 16) → y ≡ hex_digit (get_or s i 0)
    → out' ≡ set out (at + 2 * i) x → out'' ≡ set out' (at + (2 * i + 1)) y
    → splice out (at + 2 * i) (hex_of (drop i s)) ≡ all → splice out'' (at + 2 * (i + 1)) (hex_of (drop (i + 1) s)) ≡ all
unfolding splice hex_of
more out out' out'' s all at i x y h u v e f g =
    let d : i + 1 ≡ suc i = omega arith in
    let j : at + (2 * i + 1) ≡ suc (at + 2 * i) = omega arith in
    let k : at + 2 * suc i ≡ suc (suc (at + 2 * i)) = omega arith in
    rw (d, k, f, j, e, u, v) (ap (λ (t : List ℕ). splice out (at + 2 * i) (hex_of t)) (sym (drop-cons s i 0 h)) ∙ g)

-- nothing is left
done : (out s all : List ℕ) (at i : ℕ) → length s ≤ i → splice out (at + 2 * i) (hex_of (drop i s)) ≡ all → out ≡ all
unfolding splice hex_of
done out s all at i h g = ap (λ (t : List ℕ). splice out (at + 2 * i) (hex_of t)) (sym (drop_of_length-le s h)) ∙ g

pub loop-i-preserved : goal.loop-i-preserved
loop-i-preserved c =
    let a = c.args in
    more c.loop-i.out c.put_byte.new.out c.put_byte-in-loop-i.new.out a.s.now (splice a.out.now a.at (hex_of a.s.now))
    a.at c.loop-i.i c.hex_digit.result c.hex_digit-in-loop-i.result (omega arith) (cc) (cc) (cc) (cc) c.loop-i.invariant

pub returns-clause-value : goal.returns-clause-value
returns-clause-value c = omega (arith, c.after.ensures, length-hex c.args.s.now)

pub returns-clause-out_after : goal.returns-clause-out_after
returns-clause-out_after c =
    done c.loop-i.out c.args.s.now (splice c.args.out.now c.args.at (hex_of c.args.s.now)) c.args.at c.loop-i.i (omega arith) c.loop-i.invariant

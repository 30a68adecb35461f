-- The last digit first, and then the others.
use mathlib.Core.Path.{sym, ap, ◌∙◌}
use native.Mathlib.Omega.{arith}
use Rattle.std.proofs.Common.{ℕ, zero, suc, List, ◌≡◌, ◌+◌, ◌-◌, ◌/◌, ◌%◌, ◌≤◌, ◌<◌, set}
use Rattle.octets.specs.Octets.{splice}
use Rattle.octets.proofs.SpliceLaws.{splice-last}
use Rattle.text.specs.Text.{digits, natural}
use Rattle.text.proofs.TextLaws.{length_digits, length-natural}
use Rattle.text.proofs.put_natural.Goals as goal

more : (out out' all : List ℕ) (at left rest : ℕ) → 0 < left → out' ≡ set out (at + (left - 1)) (48 + rest % 10)
    → splice out at (digits left rest) ≡ all → splice out' at (digits (left - 1) (rest / 10)) ≡ all
unfolding digits
more out out' all at zero rest h f g = absurd (omega arith)
more out out' all at (suc k) rest h f g =
    let e : suc k - 1 ≡ k = omega arith in
    rw (f, e)
    (ap (λ (j : ℕ). splice (set out (at + j) (48 + rest % 10)) at (digits k (rest / 10))) (sym (length_digits k (rest / 10)))
    ∙ sym (splice-last out at (digits k (rest / 10)) (48 + rest % 10))
    ∙ g)

-- none is left
done : (out all : List ℕ) (at left rest : ℕ) → left ≤ 0 → splice out at (digits left rest) ≡ all → out ≡ all
unfolding splice digits
done out all at zero rest h g = g
done out all at (suc k) rest h g = absurd (omega arith)

pub loop-i-init : goal.loop-i-init
unfolding natural
loop-i-init c = ap (λ (k : ℕ). splice c.args.out.now c.args.at (digits k c.args.n)) c.places-count.ensures

pub loop-i-preserved : goal.loop-i-preserved
loop-i-preserved c =
    more c.loop-i.out c.put_byte.new.out (splice c.args.out.now c.args.at (natural c.args.n)) c.args.at c.loop-i.i c.loop-i.rest (omega arith)
    (cc) c.loop-i.invariant

pub returns-clause-value : goal.returns-clause-value
returns-clause-value c = omega (arith, c.after.ensures, c.places-count.ensures, length-natural c.args.n)

pub returns-clause-out_after : goal.returns-clause-out_after
returns-clause-out_after c =
    done c.loop-i.out (splice c.args.out.now c.args.at (natural c.args.n)) c.args.at c.loop-i.i c.loop-i.rest (omega arith) c.loop-i.invariant

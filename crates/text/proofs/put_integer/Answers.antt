-- The sign, then the digits.
use mathlib.Core.Path.{ap, ◌∙◌}
use native.Mathlib.Omega.{arith}
use Rattle.std.proofs.Common.{ℕ, List, [], ◌∷◌, ◌≡◌, length, ℤ, nat_abs, to_z, of_z, w64, FitsSigned}
use Rattle.std.proofs.lemmas.Int.{to_z-of_z}
use Rattle.algebra.proofs.Machine.{Negative, negative, Positive, positive}
use Rattle.octets.specs.Octets.{splice}
use Rattle.text.specs.Text.{after, natural, integer}
use Rattle.text.proofs.TextLaws.{put-none, put-more, put_as}
use Rattle.text.proofs.put_integer.Goals as goal

size : (z : ℤ) (m : ℕ) → FitsSigned w64 z → m ≡ nat_abs (to_z w64 (of_z w64 z)) → m ≡ nat_abs z
size z m f e = e ∙ ap nat_abs (to_z-of_z w64 z f)

minus-text : (z : ℤ) (m : ℕ) → Negative z → m ≡ nat_abs z → 45 ∷ natural m ≡ integer z
unfolding integer
minus-text z m n e = rw n.is (ap (λ (k : ℕ). 45 ∷ natural k) (e ∙ ap nat_abs n.is))

plus-text : (z : ℤ) (m : ℕ) → Positive z → m ≡ nat_abs z → natural m ≡ integer z
unfolding integer
plus-text z m p e = rw p.is (ap natural (e ∙ ap nat_abs p.is))

pub returns-then-z-lt0 : goal.returns-then-z-lt0
returns-then-z-lt0 c =
    let m = c.magnitude-m.result in
    let t = minus-text c.args.z m (negative c.args.z c.ranges.z (cc)) (size c.args.z m c.ranges.z c.magnitude-m.ensures) in
    let p =
    put_as t
    (put-more {out' = c.put_natural.new.out} {at' = c.put_natural.result} (natural m)
    (put-more {out' = c.put_bytes-first.new.out} {at' = c.put_bytes-first.result} (45 ∷ [])
    (put-none c.args.out.now c.args.at (omega arith) (omega arith)) (cc) (cc)) (cc) (cc)) in
    record { value = p.place; out_after = p.holds }

pub returns : goal.returns
returns c =
    let m = c.magnitude-m.result in
    let t = plus-text c.args.z m (positive c.args.z c.ranges.z (cc)) (size c.args.z m c.ranges.z c.magnitude-m.ensures) in
    record {
      value = c.put_natural-2.ensures.value ∙ ap (λ (u : List ℕ). after c.args.at (length u)) t;
      out_after = c.put_natural-2.ensures.out_after ∙ ap (splice c.args.out.now c.args.at) t;
    }

-- Two runs of four bytes are one of eight.
use mathlib.Core.Path.{sym, ap, ap₂, ◌∙◌}
use native.Mathlib.Nat.{add-zero}
use native.Mathlib.Omega.{arith}
use Rattle.std.proofs.Common.{ℕ, List, ◌≡◌, ◌+◌, ◌*◌, ◌^◌, ◌<◌, min}
use Rattle.octets.specs.Octets.{unsigned_at}
use Rattle.octets.proofs.ReadLaws.{Bytes, unsigned-lt, unsigned-parts}
use Rattle.octets.proofs.unsigned_at.Goals as goal

four : (s : List ℕ) (at r : ℕ) → Bytes s → r ≡ unsigned_at s at 4 → r < 2 ^ 32
four s at r b e = rw e (unsigned-lt s at 4 b)

pub overflow_mul-result : goal.overflow_mul-result
overflow_mul-result c =
    let h = four c.args.s.now (c.args.at + 0) c.run_at-2.result (λ i. omega (arith, c.type_inv.s i)) (cc) in
    record { fits = omega arith }

pub overflow_add-result : goal.overflow_add-result
overflow_add-result c =
    let h = four c.args.s.now (c.args.at + 0) c.run_at-2.result (λ i. omega (arith, c.type_inv.s i)) (cc) in
    let l = four c.args.s.now (c.args.at + 4) c.run_at-3.result (λ i. omega (arith, c.type_inv.s i)) (cc) in
    record { fits = omega arith }

pub returns : goal.returns
returns c =
    let a = c.args in
    let e : 8 ≡ min a.n 8 = omega arith in
    ap₂ (λ (h l : ℕ). h * 2 ^ 32 + l) (c.run_at-2.ensures ∙ ap (λ (k : ℕ). unsigned_at a.s.now k 4) (add-zero a.at)) c.run_at-3.ensures
    ∙ sym (unsigned-parts a.s.now a.at 4 4)
    ∙ ap (unsigned_at a.s.now a.at) e

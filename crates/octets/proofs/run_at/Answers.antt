-- Up to 8 bytes fit 64 bits.
use mathlib.Core.Path.{refl}
use native.Mathlib.Nat.{lt_of_lt_of_le, pow-le-pow_right}
use native.Mathlib.Numerals.{add-one}
use native.Mathlib.Omega.{arith}
use lib.Dec.{lit<}
use Rattle.std.proofs.Common.{ℕ, List, ◌≡◌, ◌+◌, ◌*◌, ◌^◌, ◌≤◌, ◌<◌, get_or}
use Rattle.octets.specs.Octets.{unsigned_at}
use Rattle.octets.proofs.ReadLaws.{Bytes, unsigned-lt}
use Rattle.octets.proofs.run_at.Goals as goal

next : (s : List ℕ) (at skip i v b : ℕ) → v ≡ unsigned_at s (at + skip) i → b ≡ get_or s (at + (skip + i)) 0 → v * 256 + b ≡ unsigned_at s (at + skip) (i + 1)
unfolding unsigned_at
next s at skip i v b e f =
    let g : at + (skip + i) ≡ at + skip + i = omega arith in
    rw (add-one i, f, e, g) (omega arith)

room : (s : List ℕ) (at i n : ℕ) → Bytes s → i < n → n ≤ 8 → unsigned_at s at (i + 1) < 2 ^ 64
room s at i n b h l = lt_of_lt_of_le (unsigned-lt s at (i + 1) b) (pow-le-pow_right {n = 256} (lit< tt) {i = i + 1} {j = 8} (omega arith))

pub loop-i-init : goal.loop-i-init
unfolding unsigned_at
loop-i-init c = refl

pub overflow_mul-value : goal.overflow_mul-value
overflow_mul-value c =
    let a = c.args in
    let r = room a.s.now (a.at + a.skip) c.loop-i.i a.n (λ i. omega (arith, c.type_inv.s i)) (omega arith) (omega arith) in
    let e = next a.s.now a.at a.skip c.loop-i.i c.loop-i.value (get_or a.s.now (a.at + (a.skip + c.loop-i.i)) 0) c.loop-i.invariant refl in
    record { fits = omega arith }

pub overflow_add-value : goal.overflow_add-value
overflow_add-value c =
    let a = c.args in
    let r = room a.s.now (a.at + a.skip) c.loop-i.i a.n (λ i. omega (arith, c.type_inv.s i)) (omega arith) (omega arith) in
    let e = next a.s.now a.at a.skip c.loop-i.i c.loop-i.value c.from.result c.loop-i.invariant (cc) in
    record { fits = omega arith }

pub loop-i-preserved : goal.loop-i-preserved
loop-i-preserved c = next c.args.s.now c.args.at c.args.skip c.loop-i.i c.loop-i.value c.from.result c.loop-i.invariant (cc)

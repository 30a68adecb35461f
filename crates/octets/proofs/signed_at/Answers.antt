-- u up to half of the greatest number is u, and above it u - 256^n is -(last - u) - 1.
use mathlib.Core.Path.{sym, ap, ◌∙◌}
use native.Mathlib.Nat.{pow-le-pow_right}
use native.Mathlib.Omega.{arith}
use lib.Dec.{lit<}
use lib.IntN.{negsuc}
use Rattle.std.proofs.Common.{ℕ, suc, List, ◌≡◌, ◌-◌, ◌^◌, ◌≤◌, ◌<◌, min, to_z, w64}
use Rattle.std.proofs.lemmas.Int.{to_z_pos, to_z-of_z}
use Rattle.octets.specs.Octets.{unsigned_at, signed_of, signed_at}
use Rattle.octets.proofs.ReadLaws.{Bytes, unsigned-lt, signed_low, signed_high}
use Rattle.octets.proofs.signed_at.Goals as goal

-- u is a number of m bytes, `last` the greatest, m at most 8
record Read (s : List ℕ) (at m u last : ℕ) : Type 0 where
  pub is : u ≡ unsigned_at s at m
  pub below : u < 256 ^ m
  pub ends : last ≡ 256 ^ m - 1
  pub fits : 256 ^ m ≤ 2 ^ 64

read : (s : List ℕ) (at n u last : ℕ) → Bytes s → u ≡ unsigned_at s at (min n 8) → last ≡ 256 ^ min n 8 - 1 → Read s at (min n 8) u last
read s at n u last b e f =
    record {
      is = e;
      below = rw e (unsigned-lt s at (min n 8) b);
      ends = f;
      fits = pow-le-pow_right {n = 256} (lit< tt) {i = min n 8} {j = 8} (omega arith);
    }

low : (s : List ℕ) (at m u last : ℕ) → Read s at m u last → u ≤ last - u → to_z w64 u ≡ signed_at s at m
unfolding signed_at
low s at m u last r h = to_z_pos w64 u (omega (arith, r)) ∙ sym (signed_low m u (omega (arith, r))) ∙ ap (signed_of m) r.is

high : (s : List ℕ) (at m u last : ℕ) → Read s at m u last → last - u < u → to_z w64 (2 ^ 64 - 1 - (last - u)) ≡ signed_at s at m
unfolding signed_at
high s at m u last r h =
    let e : 2 ^ 64 - 1 - (last - u) ≡ 2 ^ 64 - suc (last - u) = omega arith in
    ap (to_z w64) e
    ∙ to_z-of_z w64 (negsuc (last - u)) (record { sfits = omega (arith, r) })
    ∙ sym (signed_high m u (omega (arith, r)) r.below ∙ ap negsuc (omega (arith, r)))
    ∙ ap (signed_of m) r.is

pub overflow_sub-last : goal.overflow_sub-last
overflow_sub-last c =
    let r = read c.args.s.now c.args.at c.args.n c.unsigned_at-u.result c.greatest-last.result (λ i. omega (arith, c.type_inv.s i)) (cc) (cc) in
    omega (arith, r)

pub returns-then-u-last : goal.returns-then-u-last
returns-then-u-last c =
    let r = read c.args.s.now c.args.at c.args.n c.unsigned_at-u.result c.greatest-last.result (λ i. omega (arith, c.type_inv.s i)) (cc) (cc) in
    low c.args.s.now c.args.at (min c.args.n 8) c.unsigned_at-u.result c.greatest-last.result r (omega arith)

pub overflow_sub-result : goal.overflow_sub-result
overflow_sub-result c =
    let r = read c.args.s.now c.args.at c.args.n c.unsigned_at-u.result c.greatest-last.result (λ i. omega (arith, c.type_inv.s i)) (cc) (cc) in
    omega (arith, r)

pub returns : goal.returns
returns c =
    let r = read c.args.s.now c.args.at c.args.n c.unsigned_at-u.result c.greatest-last.result (λ i. omega (arith, c.type_inv.s i)) (cc) (cc) in
    high c.args.s.now c.args.at (min c.args.n 8) c.unsigned_at-u.result c.greatest-last.result r (omega arith)

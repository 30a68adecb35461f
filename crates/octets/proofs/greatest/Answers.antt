-- 256^n is 2^(8 n).
use mathlib.Core.Path.{ap, ◌∙◌}
use native.Mathlib.Nat.{one-mul}
use native.Mathlib.Omega.{arith}
use Rattle.std.proofs.Common.{ℕ, ◌≡◌, ◌-◌, ◌*◌, ◌%◌, ◌^◌, ◌<◌, min}
use lib.Dec.{lit<}
use lib.Pow.{shl_exact}
use Rattle.octets.proofs.DigitLaws.{eights}
use Rattle.octets.proofs.greatest.Goals as goal

shifted : (n : ℕ) → n < 8 → (1 * 2 ^ (8 * n)) % 2 ^ 64 ≡ 256 ^ n
shifted n h = shl_exact {a = 1} 1 (8 * n) 64 (lit< tt) (omega arith) ∙ one-mul (2 ^ (8 * n)) ∙ eights n

pub returns-then-n-lt8 : goal.returns-then-n-lt8
returns-then-n-lt8 c =
    let e : c.args.n ≡ min c.args.n 8 = omega arith in
    ap (λ (k : ℕ). k - 1) (shifted c.args.n (omega arith) ∙ ap (λ (k : ℕ). 256 ^ k) e)

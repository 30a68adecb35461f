-- A rounded step on machine numbers: what a call of `near` answers, as the plain number with its range.
--
-- r is the call's result and X the machine term that it was handed. `vnear b k e v (lit≤ tt) (lit< tt)` is the next link of a chain of
-- `Va`s (Machine of the crate algebra).
use mathlib.Core.Path.{◌≡◌, ap, ◌∙◌}
use Prim.Native.Nat.{ℕ, ◌*◌, ◌^◌, ◌≤◌, ◌<◌}
use native.Mathlib.Nat.{le_trans}
use lib.IntN.{ℤ}
use mir.Syntax.{w64}
use mir.Val.{to_z, of_z}
use Rattle.algebra.proofs.Machine.{Va, at}
use Rattle.numbers.specs.Near.{near}
use Rattle.numbers.proofs.NearLaws.{near-bound}

pub near-at : {X x : ℤ} {n : ℕ} (b k : ℕ) → Va X x n → n ≤ k * b → Va (near X b) (near x b) k
near-at {X} {x} {n} b k v h = record { told = ap (λ (z : ℤ). near z b) v.told; small = near-bound x b k (le_trans v.small h) }

pub from : {r y x : ℤ} {n : ℕ} → r ≡ y → Va y x n → Va r x n
from e v = record { told = e ∙ v.told; small = v.small }

pub vnear : (b k : ℕ) {r X x : ℤ} {n : ℕ} → r ≡ near X b → Va X x n → n ≤ k * b → k < 2 ^ 63 → Va (to_z w64 (of_z w64 r)) (near x b) k
vnear b k e v h l = at (from e (near-at b k v h)) l

-- The products and P on machine numbers: what a call of `times` or `legendre` answers, as the plain number with its range. See NearSteps of the
-- crate numbers.
use mathlib.Core.Path.{◌≡◌, ap, ap₂, ◌∙◌, subst⁻¹}
use Prim.Native.Nat.{ℕ, ◌+◌, ◌*◌, ◌^◌, ◌≤◌, ◌<◌}
use native.Mathlib.Nat.{le_trans}
use lib.IntN.{ℤ, nat_abs}
use mir.Syntax.{w64}
use mir.Val.{to_z, of_z}
use Rattle.algebra.proofs.Machine.{rd, Va, plain, given, lit, sfits-abs, at, v*, v-}
use Rattle.tides.specs.Direction.{E, times, legendre}
use Rattle.numbers.proofs.NearSteps.{near-at, from}

pub times-bound : (x y : ℤ) (n m k : ℕ) → nat_abs x ≤ n → nat_abs y ≤ m → n * m ≤ k * E → nat_abs (times x y) ≤ k
unfolding times
times-bound x y n m k h l p = (near-at E k (v* (plain x h) (plain y l)) p).small

pub vtimes : (k : ℕ) {r X Y x y : ℤ} {n m : ℕ} → r ≡ times X Y → Va X x n → Va Y y m → n * m ≤ k * E → k < 2 ^ 63 → Va (to_z w64 (of_z w64 r)) (times x y) k
vtimes k {x = x} {y = y} {n = n} {m = m} e v w h l =
    at (from (e ∙ ap₂ times v.told w.told) (plain (times x y) (times-bound x y n m k v.small w.small h))) l

pub legendre-bound : (s : ℤ) (n k : ℕ) → nat_abs s ≤ n → 3 * n + E ≤ k * 2 → nat_abs (legendre s) ≤ k
unfolding legendre
legendre-bound s n k h p = (near-at 2 k (v- (v* (lit 3) (plain s h)) (lit E)) p).small

pub vlegendre : (k : ℕ) {r X x : ℤ} {n : ℕ} → r ≡ legendre X → Va X x n → 3 * n + E ≤ k * 2 → k < 2 ^ 63 → Va (to_z w64 (of_z w64 r)) (legendre x) k
vlegendre k {x = x} {n = n} e v h l = at (from (e ∙ ap legendre v.told) (plain (legendre x) (legendre-bound x n k v.small h))) l

-- ---- what is known of a number, as the machine reads it

-- an answer r, of which the contract says that it is y
pub said : {r y : ℤ} {k : ℕ} → r ≡ y → nat_abs y ≤ k → k < 2 ^ 63 → Va (rd r) y k
said e h l = at (record { told = e; small = h }) l

-- a number that is known to be small
pub held : (a : ℤ) (n : ℕ) → nat_abs a ≤ n → n < 2 ^ 63 → Va (rd a) a n
held a n h l = given (sfits-abs {z = a} h l) h

pub size : {x z : ℤ} {n m : ℕ} → Va x z n → n ≤ m → nat_abs x ≤ m
size {x} {z} {n} {m} v h = subst⁻¹ (λ (y : ℤ). nat_abs y ≤ m) v.told (le_trans v.small h)

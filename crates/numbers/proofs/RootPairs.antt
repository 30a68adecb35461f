-- The root a pair of bits at a time: what the root's loop holds before each pair and after the last, and its two steps.
use mathlib.Core.Path.{◌≡◌}
use Prim.Native.Nat.{ℕ, zero, suc, ◌+◌, ◌-◌, ◌*◌, ◌/◌, ◌^◌, ◌≤◌, ◌<◌}
use native.Mathlib.Nat.{pow-succ', one-le-pow}
use native.Mathlib.Omega.{arith}
use lib.Dec.{lit<}
use Rattle.numbers.specs.Root.{IsRoot}

-- r is the root of n so far, in units whose square is `unit`; the code has it `unit` times, as `found`, and what its square leaves of n as `rest`
pub record Found (n unit rest found : ℕ) : Type 0 where
  pub r : ℕ
  pub place : found ≡ unit * r
  pub parts : rest + unit * (r * r) ≡ n
  pub least : rest < unit * (2 * r + 1)
  pub most : unit * ((r + 1) * (r + 1)) ≤ 2 ^ 64

module _ (n b rest found : ℕ) (s : Found n (4 * b) rest found) where
  pub trial-fits : 0 < b → found + b < 2 ^ 64
  trial-fits h = omega arith

  module _ (m g : ℕ) where
    -- the next bit is 0
    pub kept : rest < found + b → m ≡ rest → g ≡ found / 2 → Found n b m g
    kept h d e =
        record { r = 2 * s.r; place = omega arith; parts = omega arith; least = omega arith; most = omega arith }

    -- the next bit is 1
    pub taken : found + b ≤ rest → m ≡ rest - (found + b) → g ≡ found + b - found / 2 → Found n b m g
    taken h d e =
        record { r = 2 * s.r + 1; place = omega arith; parts = omega arith; least = omega arith; most = omega arith }

-- before the pair whose unit is `bit`, a power of four; after the last pair `bit` is 0
pub record Pairs (n bit rest found : ℕ) : Type 0 where
  pub k : ℕ
  pub pair : bit ≡ 4 ^ k / 4
  pub part : Found n (4 ^ k) rest found

-- a number of 64 bits has 32 pairs
pub first : (n bit : ℕ) → n < 2 ^ 64 → bit ≡ 2 ^ 62 → Pairs n bit n 0
first n bit h e =
    record {
      k = 32;
      pair = omega arith;
      part = record { r = 0; place = omega arith; parts = omega arith; least = omega arith; most = omega arith };
    }

-- at a pair: what is found is in units of four times its own, and what is then found in its own is before the next
pub record Turn (n bit rest found : ℕ) : Type 0 where
  pub held : Found n (4 * bit) rest found
  pub on : (next m g : ℕ) → next ≡ bit / 4 → Found n bit m g → Pairs n next m g

turn-of : (n rest found k : ℕ) → Found n (4 ^ k) rest found → 0 < 4 ^ k / 4 → Turn n (4 ^ k / 4) rest found
turn-of n rest found zero f h = absurd (omega arith)
turn-of n rest found (suc j) f h =
    let e : 4 ^ suc j / 4 ≡ 4 ^ j = omega (arith, pow-succ' 4 j) in
    rw e (record { held = rw (← pow-succ' 4 j) f; on = λ next m g d w. record { k = j; pair = d; part = w } })

pub turn : (n bit rest found : ℕ) → Pairs n bit rest found → 0 < bit → Turn n bit rest found
turn n bit rest found s h = rw s.pair (turn-of n rest found s.k s.part (rw (← s.pair) h))

last_of : (n rest found k : ℕ) → Found n (4 ^ k) rest found → 4 ^ k / 4 ≡ 0 → IsRoot n found
last_of n rest found zero f h =
    let e : found ≡ f.r = omega arith in
    rw e (record { below = omega arith; above = omega arith })
last_of n rest found (suc j) f h = absurd (omega (arith, pow-succ' 4 j, one-le-pow j 4 (lit< tt)))

pub last : (n bit rest found : ℕ) → Pairs n bit rest found → bit ≤ 0 → IsRoot n found
last n bit rest found s h = last_of n rest found s.k s.part (omega arith)

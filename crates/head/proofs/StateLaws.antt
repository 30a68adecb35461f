-- Laws of byte 10: what is set is read, what is read and set again changes nothing, and the last state that is set counts.
use mathlib.Core.Path.{◌≡◌, refl}
use mathlib.Core.Bool.{true, false}
use Prim.Native.Nat.{ℕ, ◌≤◌}
use native.Mathlib.Omega.{arith}
use borrow.Author.Tests.{le-leb, eqb-false, leb-true}
use lib.Dec.{eqb}
use Rattle.head.specs.State.{state_of, with_state, state_fits}

-- what the code computes
pub state-is : (byte : ℕ) → byte ≡ state_of byte
unfolding state_of
state-is byte = refl

pub with-is : (byte state : ℕ) → state ≡ with_state byte state
unfolding with_state
with-is byte state = refl

pub state-with : (byte state : ℕ) → state ≤ 2 → state_of (with_state byte state) ≡ state
unfolding state_of with_state
state-with byte state h = refl

pub with-own : (byte : ℕ) → with_state byte (state_of byte) ≡ byte
unfolding state_of with_state
with-own byte = refl

pub with-twice : (byte s t : ℕ) → with_state (with_state byte s) t ≡ with_state byte t
unfolding with_state
with-twice byte s t = refl

pub with-fits : (byte state : ℕ) → state_fits byte ≡ true → state ≤ 2 → state_fits (with_state byte state) ≡ true
unfolding with_state state_fits
with-fits byte state e h = le-leb state 2 h

-- a byte of 0 or 1 is accepted, and its state is not solid tide
pub low_fits : (byte : ℕ) → byte ≤ 1 → (state_fits byte ≡ true) × (state_of byte ≤ 1)
unfolding state_of state_fits
low_fits byte h = (le-leb byte 2 (omega arith), h)

-- without solid tide an accepted byte is 0 or 1
pub fits_low : (byte : ℕ) → state_fits byte ≡ true → eqb (state_of byte) 2 ≡ false → byte ≤ 1
unfolding state_of state_fits
fits_low byte e f =
    let h : byte ≤ 2 = leb-true byte 2 e in
    omega (arith, eqb-false byte 2 f)

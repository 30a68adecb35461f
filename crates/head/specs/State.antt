-- Byte 10 of a card: its tide state, and the byte with another state.
use Rattle.std.specs.Prelude.{Bool, ℕ, leb}

-- 0 neither tide, 1 mean tide, 2 solid tide
unfoldable pub state_of : ℕ → ℕ
state_of byte = byte

-- what else the byte holds stays: today, nothing
unfoldable pub with_state : ℕ → ℕ → ℕ
with_state byte state = state

-- the byte is 0, 1 or 2
unfoldable pub state_fits : ℕ → Bool
state_fits byte = leb byte 2

-- What a read that failed has left: bytes may have been taken from the stream before it.
use Rattle.std.specs.Prelude.{ℕ, ◌≤◌, List, length, take, Option}
use Rattle.std.specs.Io.KnownBytes.{Consumes}

-- some bytes were taken from the stream, and nothing else was done to it
abbrev pub TookSome : Option (List ℕ) → Option (List ℕ) → Type 0
TookSome old new = (bs : List ℕ) × Consumes old new bs

-- they were n, and stand at the buffer's start
abbrev pub TookTo : Option (List ℕ) → Option (List ℕ) → List ℕ → Type 0
TookTo old new space = (n : ℕ) × (n ≤ length space) × Consumes old new (take n space)

-- An output that a caller lends: its length comes first (1), and where a call is refused it is kept as it was.
use Rattle.std.specs.Prelude.{cond, List, ℕ, eqb}

-- a refusal n comes before what follows it
unfoldable pub before : ℕ → ℕ → ℕ
before n after = cond (eqb n 0) after n

-- 1 where an output of `room` elements is not of length l, then what follows
unfoldable pub roomy : ℕ → ℕ → ℕ → ℕ
roomy l room after = cond (eqb room l) after 1

-- an output under a number: what is written, or what it held. For bytes, doubles and numbers.
abbrev pub kept : {A : Type 0} → ℕ → List A → List A → List A
kept n new old = cond (eqb n 0) new old

-- The largest A and B of the table's rows.
use Prim.Native.Nat.{ℕ}

-- the largest component of A at marks of at most 6,400,000 m a component, grains: ITRF88's z
abbrev pub most_a : ℕ
most_a = 284788066

-- the same of B, grains a quarter-day: ITRF93's z
abbrev pub most_b : ℕ
most_b = 12284

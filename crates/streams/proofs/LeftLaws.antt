-- What was taken from a stream in parts, and by turns. Assumes nothing.
use Rattle.std.proofs.Common.{ℕ, List, ◌++◌, take}
use Rattle.std.proofs.KnownBytes.{Consumes-trans}
use Rattle.std.specs.Prelude.{Option}
use Rattle.streams.specs.Left.{TookSome, TookTo}

-- some bytes, and then some more
pub took_more : (a b c : Option (List ℕ)) → TookSome a b → TookSome b c → TookSome a c
took_more a b c p q = (p.0 ++ q.0, Consumes-trans a b c p.0 q.0 p.1 q.1)

-- what stands in a buffer was taken
pub took_to : (a b : Option (List ℕ)) (space : List ℕ) → TookTo a b space → TookSome a b
took_to a b space p = (take p.0 space, p.2)

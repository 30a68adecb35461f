-- No record passed has the key's site: the place is sought among those that are left.
use Rattle.std.proofs.Common.{◌≡◌, ◌-◌, ◌*◌, length}
use Rattle.codec.specs.Codec.{card_length}
use Rattle.catalogue.specs.Lookup.{first_from}
use Rattle.catalogue.proofs.find_place.Given as goal

abbrev pub invariant-loop-n : goal.invariant-loop-n
invariant-loop-n l =
    first_from l.catalogue l.key (card_length * l.n) (length l.record-items - l.n) ≡ first_from l.catalogue l.key 0 (length l.record-items)

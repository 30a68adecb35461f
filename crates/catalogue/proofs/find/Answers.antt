-- The part that the place names, or the empty part at the catalogue's end.
use Rattle.std.proofs.Common.{rules, ◌≡◌, sym, ap, ℕ, List, ◌+◌, ◌≤◌, length, Ok}
use native.Mathlib.Omega.{arith}
use Rattle.refusal.specs.Answered.{answered}
use Rattle.codec.specs.Codec.{card_length}
use Rattle.catalogue.specs.Lookup.{find_place, found, place_of}
use Rattle.catalogue.proofs.LookupLaws.{found-place, found-refused, place-within, part_of, part_none}
use Rattle.catalogue.proofs.find.Goals as goal

module _ (s key : List ℕ) (p : ℕ) (q : answered (length s) (Ok p) ≡ found s key) where
  place-is : p ≡ find_place s key
  place-is = (found-place s key p q).1

  within : p + card_length ≤ length s
  within = omega (arith, place-within s key (found-place s key p q).0, place-is)

pub overflow_add-end : goal.overflow_add-end
overflow_add-end c = let h = within c.args.catalogue.now c.args.key.now c.in-Ok.start c.in-Ok.ensures in search rules

pub slice_bounds-result-end : goal.slice_bounds-result-end
slice_bounds-result-end c = let h = within c.args.catalogue.now c.args.key.now c.in-Ok.start c.in-Ok.ensures in search rules

pub returns-in-Ok-clause-result_value : goal.returns-in-Ok-clause-result_value
returns-in-Ok-clause-result_value c =
    let f = found-place c.args.catalogue.now c.args.key.now c.in-Ok.start c.in-Ok.ensures in
    part_of c.args.catalogue.now c.args.key.now c.in-Ok.start f.0 f.1

pub returns-in-Ok-clause-ref_ptr_value : goal.returns-in-Ok-clause-ref_ptr_value
returns-in-Ok-clause-ref_ptr_value c = ap (place_of c.args.catalogue.ref_ptr) (place-is c.args.catalogue.now c.args.key.now c.in-Ok.start c.in-Ok.ensures)

pub returns-in-Err-clause-result_value : goal.returns-in-Err-clause-result_value
returns-in-Err-clause-result_value c =
    let f = found-refused c.args.catalogue.now c.args.key.now c.in-Err.field-0 c.in-Err.ensures in
    part_none c.args.catalogue.now c.args.key.now (length c.args.catalogue.now) _ f.0 (sym f.1)

pub returns-in-Err-clause-ref_ptr_value : goal.returns-in-Err-clause-ref_ptr_value
returns-in-Err-clause-ref_ptr_value c =
    ap (place_of c.args.catalogue.ref_ptr) (sym (found-refused c.args.catalogue.now c.args.key.now c.in-Err.field-0 c.in-Err.ensures).1)

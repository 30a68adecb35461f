-- The starred numbers of the paper hold, together, computed on the definitions.
use mathlib.Core.Path.{refl}
use Rattle.mark.specs.Mark.{mark_number}
use Rattle.field.specs.Field.{rounded_by}
use Rattle.laws.specs.Starred.{Starred}
use Rattle.laws.proofs.Example.{computing}

pub starred : Starred
unfolding computing mark_number rounded_by
starred =
    record {
      case-1 = (refl, refl, refl);
      case-2 = refl;
      case-3 = refl;
      case-4 = (refl, refl);
      case-5 = (refl, refl);
      older-93 = (refl, refl);
      older-88 = (refl, refl);
      case-6 = refl;
      case-7 = refl;
      case-8 = refl;
      case-9 = (refl, refl, refl, refl);
      case-10 = (refl, refl);
      case-11 = refl;
      case-12 = (refl, refl, refl);
    }

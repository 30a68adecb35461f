-- A sample card, for the cases of the paper that need one.
use Rattle.std.specs.Prelude.{[], ◌∷◌, ℤ, pos}
use Rattle.mark.specs.Mark.{vec, nowhere}
use Rattle.card.specs.declared.Card.{Card}

-- 90001M001 in ITRF2008 at the mark of case 2, moving 20,000 micrometres a year in x, at an epoch
abbrev pub at : ℤ → Card
at e =
    record {
      site = 57 ∷ 48 ∷ 48 ∷ 48 ∷ 49 ∷ 77 ∷ 48 ∷ 48 ∷ 49 ∷ [];
      frame = 0;
      tide = 0;
      epoch = e;
      mark = vec (pos 6378137) (pos 0) (pos 0);
      velocity = vec (pos 20000) (pos 0) (pos 0);
      position = vec (pos 9318458157000000) (pos 0) (pos 0);
      solid = nowhere;
    }

-- The core of a card: what is left of it without its frame and its tides. A call keeps the core, or moves it by d.
use Rattle.std.specs.Prelude.{List, ℕ, ℤ, ◌+ℤ◌}
use Rattle.mark.specs.declared.Vec3.{Vec3}
use Rattle.mark.specs.Mark.{plus, scaled}
use Rattle.frames.specs.Frame.{frame_b, frame_at}
use Rattle.card.specs.declared.Card.{Card}
use Rattle.laws.specs.Lists.{Tides, in_force, bare, steady}

-- the position less the tides in force less A_f + B_f x epoch, and the velocity less B_f
pub record Core : Type 0 where
  pub site : List ℕ
  pub mark : Vec3
  pub epoch : ℤ
  pub velocity : Vec3
  pub position : Vec3

unfoldable pub core : Card → Core
core c = record { site = c.site; mark = c.mark; epoch = c.epoch; velocity = steady c; position = bare c }

-- moved by d
unfoldable pub later : ℤ → Core → Core
later d b =
    record {
      site = b.site;
      mark = b.mark;
      epoch = b.epoch +ℤ d;
      velocity = b.velocity;
      position = plus b.position (scaled d b.velocity);
    }

-- the card of a core in a frame and with tides
unfoldable pub dressed : Core → ℕ → Tides → Card
dressed b g t =
    record {
      site = b.site;
      frame = g;
      tide = t.byte;
      epoch = b.epoch;
      mark = b.mark;
      velocity = plus b.velocity (frame_b g b.mark);
      position = plus (plus b.position (frame_at g b.mark b.epoch)) (in_force t b.mark);
      solid = t.stored;
    }

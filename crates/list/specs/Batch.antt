-- A turn of the listing program: so many parts, the bytes that they have at most, and the bytes of their lines.
use Rattle.std.specs.Prelude.{ℕ, ◌*◌}
use Rattle.codec.specs.Codec.{card_length}
use Rattle.listing.specs.Line.{line_most}

abbrev pub parts_most : ℕ
parts_most = 512

abbrev pub input_most : ℕ
input_most = parts_most * card_length

abbrev pub output_most : ℕ
output_most = parts_most * line_most

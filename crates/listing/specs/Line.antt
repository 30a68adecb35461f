-- The listing line of one part: its card's site, frame, epoch and position, or its refusal. Text is ASCII.
use Rattle.std.specs.Prelude.{cond, List, [], ◌∷◌, ◌++◌, ℕ, eqb, ℤ, pos}
use Rattle.text.specs.Text.{integer}
use Rattle.card.specs.declared.Card.{Card}
use Rattle.codec.specs.Codec.{read_number, decode}

-- a space before each number, a line feed after the last
unfoldable pub numbers : List ℤ → List ℕ
numbers [] = 10 ∷ []
numbers (z ∷ zs) = (32 ∷ integer z) ++ numbers zs

-- `refused`
unfoldable pub refused_word : List ℕ
refused_word = 114 ∷ 101 ∷ 102 ∷ 117 ∷ 115 ∷ 101 ∷ 100 ∷ []

unfoldable pub refused_line : ℕ → List ℕ
refused_line n = refused_word ++ numbers (pos n ∷ [])

-- site, frame, epoch in quarter-days, position in grains
unfoldable pub card_line : Card → List ℕ
card_line c = c.site ++ numbers (pos c.frame ∷ c.epoch ∷ c.position.x ∷ c.position.y ∷ c.position.z ∷ [])

unfoldable pub line_of : List ℕ → List ℕ
line_of s = cond (eqb (read_number s) 0) (card_line (decode s)) (refused_line (read_number s))

-- the most bytes that a line has
abbrev pub line_most : ℕ
line_most = 120

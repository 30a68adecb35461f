-- The twelve frames as cases, and what a code is read as.
use Rattle.std.specs.Prelude.{◌≡◌, false, ℕ, Result, MatchResult}
use Rattle.refusal.specs.declared.Refusal.{Refusal}
use Rattle.refusal.specs.declared.Refusal.TheVariants as Refused
use Rattle.frames.specs.declared.known.Frame.{Frame}
use Rattle.frames.specs.declared.known.Frame.TheVariants as Is
use Rattle.frames.specs.Frame.{known_frame}

-- the paper's code of each frame
abbrev pub code_of : Frame → ℕ
code_of Is.Itrf2008 = 0
code_of Is.Itrf2005 = 1
code_of Is.Itrf2000 = 2
code_of Is.Itrf97 = 3
code_of Is.Itrf96 = 4
code_of Is.Itrf94 = 5
code_of Is.Itrf93 = 6
code_of Is.Itrf92 = 7
code_of Is.Itrf91 = 8
code_of Is.Itrf90 = 9
code_of Is.Itrf89 = 10
code_of Is.Itrf88 = 11

-- the frame of a code, or `Frame` where it has none
abbrev pub Decodes : ℕ → Result Frame Refusal → Type 0
Decodes code r = MatchResult r (λ frame. code_of frame ≡ code) (λ e. (e ≡ Refused.Frame) × (known_frame code ≡ false))

-- The code of a frame is a known one.
use mathlib.Core.Path.{◌≡◌, refl}
use mathlib.Core.Bool.{true}
use Rattle.frames.specs.declared.known.Frame.{Frame}
use Rattle.frames.specs.declared.known.Frame.TheVariants as Is
use Rattle.frames.specs.Frame.{known_frame}
use Rattle.frames.specs.Known.{code_of}

pub code-known : (f : Frame) → known_frame (code_of f) ≡ true
unfolding known_frame
code-known Is.Itrf2008 = refl
code-known Is.Itrf2005 = refl
code-known Is.Itrf2000 = refl
code-known Is.Itrf97 = refl
code-known Is.Itrf96 = refl
code-known Is.Itrf94 = refl
code-known Is.Itrf93 = refl
code-known Is.Itrf92 = refl
code-known Is.Itrf91 = refl
code-known Is.Itrf90 = refl
code-known Is.Itrf89 = refl
code-known Is.Itrf88 = refl

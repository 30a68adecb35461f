-- What the private steps of the face answer, in the words of its definitions.
use Rattle.std.specs.Prelude.{cond, ℕ, leb}
use Rattle.tides.specs.declared.Body.{Body}
use Rattle.tides.specs.declared.Body.TheVariants.{Moon}
use Rattle.tides.specs.declared.BodyVector.{BodyVector}
use Rattle.netvjesha.specs.Face.{body_of}

-- a body by its label, where the labels k and l of the call are both 0 or 1; else a Moon at v
unfoldable pub labelled : ℕ → ℕ → ℕ → BodyVector → BodyVector → Body
labelled k l label v w = cond (leb k 1) (cond (leb l 1) (body_of label w) (Moon v)) (Moon v)

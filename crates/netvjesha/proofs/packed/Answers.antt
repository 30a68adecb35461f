-- The number and the count or place of either answer, packed.
use Rattle.std.proofs.Common.{rules, ◌≡◌, ◌∙◌, ap, ℕ, ◌+◌, ◌*◌, ◌%◌}
use Rattle.refusal.specs.Answered as A
use Rattle.netvjesha.specs.Face as F
use Rattle.netvjesha.specs.Face.{packed}
use Rattle.netvjesha.proofs.packed.Goals as goal

pub returns : goal.returns
unfolding packed
returns c =
    let e : (c.match-answer.number.0, c.match-answer.number.1) ≡ A.counted c.args.answer = search rules in
    ap (λ (n : ℕ). n + 256 * (c.match-answer.number.1 % 72057594037927936)) c.from.ensures ∙ ap F.packed_rows e

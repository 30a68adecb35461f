-- Nothing left, a short part, or a record read.
use Rattle.std.proofs.Common.{rules, ◌≡◌, sym, ◌∙◌, ap, ℕ, List, ◌+◌, ◌-◌, ◌<◌, ◌≤◌, length, take, drop}
use native.Mathlib.Omega.{arith}
use Rattle.card.specs.declared.Answer.{Answer}
use Rattle.codec.specs.Codec.{card_length, read_card}
use Rattle.catalogue.specs.Reader.{stepped, taken_at}
use Rattle.catalogue.proofs.ReaderLaws.{taken-end, taken-short, taken-whole}
use Rattle.catalogue.proofs.take_at.Goals as goal

whole_is : (s : List ℕ) (at : ℕ) (a : Answer) → a ≡ read_card (take (at + card_length - at) (drop at s)) → at < length s → card_length ≤ length s - at
    → stepped a (at + card_length) ≡ taken_at s at
whole_is s at a e h k =
    let n : at + card_length - at ≡ card_length = omega arith in
    ap (λ (b : Answer). stepped b (at + card_length)) (e ∙ ap (λ (m : ℕ). read_card (take m (drop at s))) n) ∙ sym (taken-whole s at h k)

pub returns-then-s-at : goal.returns-then-s-at
returns-then-s-at c = sym (taken-end c.args.s.now c.args.at (search rules))

pub returns-then-s-at-lt-CARD_LENGTH : goal.returns-then-s-at-lt-CARD_LENGTH
returns-then-s-at-lt-CARD_LENGTH c = sym (taken-short c.args.s.now c.args.at (search rules) (search rules))

pub returns-in-Ok : goal.returns-in-Ok
returns-in-Ok c = whole_is c.args.s.now c.args.at _ c.in-Ok.ensures (search rules) (search rules)

pub returns-in-Err : goal.returns-in-Err
returns-in-Err c = whole_is c.args.s.now c.args.at _ c.in-Err.ensures (search rules) (search rules)

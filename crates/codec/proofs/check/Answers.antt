-- The length, then what the bytes hold.
use Rattle.std.proofs.Common.{rules, ◌≡◌, ◌∙◌, ap, List, ℕ, length, get_or, Err}
use Rattle.std.specs.Prelude.{eqb}
use Rattle.refusal.specs.declared.Refusal.TheVariants as Is
use Rattle.refusal.specs.Answered as A
use Rattle.refusal.specs.Answered.{number_of}
use Rattle.codec.specs.Codec.{card_length, decode}
use Rattle.codec.proofs.AnswerLaws.{number_short, read_number_lem}
use Rattle.codec.proofs.check.Goals as goal

pub returns-in_err-record : goal.returns-in_err-record
returns-in_err-record c =
    let r : c.from_residual.result ≡ Err Is.Length = search rules in
    let n : length c.args.s.now ≡ card_length → ⊥ = search rules in
    ap A.number r ∙ number_short c.args.s.now n

pub returns : goal.returns
returns c =
    let r : c.in_ok-record.record.now ≡ c.args.s.now = search rules in
    let l : length c.args.s.now ≡ card_length = search rules in
    read_number_lem c.args.s.now (A.number c.check_with.result) (eqb (get_or c.in_ok-record.record.now 11 0) 0) c.decode.result l
    (ap (λ (t : List ℕ). eqb (get_or t 11 0) 0) r) (c.decode.ensures ∙ ap decode r) c.check_with.ensures

-- 3 for an unknown code, 6 for a mark, else A and B of the code's row.
use Rattle.std.proofs.Common.{rules, ◌≡◌, sym, ◌∙◌, ap, ℕ, true, false, Err, pos}
use Rattle.refusal.specs.declared.Refusal.TheVariants as Refused
use Rattle.refusal.specs.Answered as A
use Rattle.mark.specs.declared.Vec3.{Vec3}
use Rattle.mark.proofs.MarkLaws.{check-refused, check-accepted, accepted-within}
use Rattle.frames.specs.declared.known.Frame.{Frame}
use Rattle.frames.specs.declared.rows.Row.{Row}
use Rattle.frames.specs.Frame as F
use Rattle.frames.specs.Frame.{row_of, frame_a, frame_b, known_frame}
use Rattle.frames.specs.Lines.{terms}
use Rattle.frames.specs.Known as K
use Rattle.frames.proofs.LineLaws.{terms-offset, terms-drift}
use Rattle.frames.proofs.RowLaws.{at-line, rates-line}
use Rattle.frames.proofs.FrameLaws.{terms-unknown, terms-unmarked, terms-taken}
use Rattle.frames.proofs.KnownLaws.{code-known}
use Rattle.frames.proofs.frame_terms.Goals as goal

-- ---- the two lines of the row that came back

a-is : (g : ℕ) (m : Vec3) (r : Row) {a : Vec3} → r ≡ row_of g → a ≡ terms (pos 1461) r.at m → a ≡ frame_a g m
unfolding frame_a
a-is g m r q e = e ∙ terms-offset r.at m ∙ rw q

b-is : (g : ℕ) (m : Vec3) (r : Row) {b : Vec3} → r ≡ row_of g → b ≡ terms (pos 1) r.rates m → b ≡ frame_b g m
unfolding frame_b
b-is g m r q e = e ∙ terms-drift r.rates m ∙ rw q

pub returns-in_err-known : goal.returns-in_err-known
returns-in_err-known c =
    let r : c.from_residual.result ≡ Err Refused.Frame = search rules in
    let u : known_frame c.args.frame ≡ false = search rules in
    ap (A.answered F.no_terms) r ∙ terms-unknown c.args.frame c.args.m u

-- ---- once the code is known, and the mark accepted

module _ (g : ℕ) (m : Vec3) (f : Frame) (k : K.code_of f ≡ g) where
  known : known_frame g ≡ true
  known = sym (ap known_frame k) ∙ code-known f

  row-is : (r : Row) → r ≡ row_of (K.code_of f) → r ≡ row_of g
  row-is r q = q ∙ ap row_of k

pub returns-in_err-check_mark : goal.returns-in_err-check_mark
returns-in_err-check_mark c =
    let e = c.in_err-check_mark.field-0.0 in
    let r : c.from_residual-in_err-check_mark.result ≡ Err e = search rules in
    let n = check-refused c.args.m e (c.in_err-check_mark.ensures) in
    ap (A.answered F.no_terms) (r ∙ ap Err n.1) ∙ terms-unmarked c.args.frame c.args.m (known c.args.frame c.args.m c.in_ok-known.known (search rules)) n.0

pub terms-requires-clause-line_within : goal.terms-requires-clause-line_within
terms-requires-clause-line_within c = rw c.row_of-row.ensures (at-line (K.code_of c.in_ok-known.known))

pub terms-requires-clause-within : goal.terms-requires-clause-within
terms-requires-clause-within c = accepted-within c.args.m (check-accepted c.args.m (c.in_ok-check_mark.ensures))

pub terms-requires-2-clause-line_within : goal.terms-requires-2-clause-line_within
terms-requires-2-clause-line_within c = rw c.row_of-row.ensures (rates-line (K.code_of c.in_ok-known.known))

pub terms-requires-2-clause-within : goal.terms-requires-2-clause-within
terms-requires-2-clause-within c = accepted-within c.args.m (check-accepted c.args.m (c.in_ok-check_mark.ensures))

pub returns : goal.returns
returns c =
    let g = c.args.frame in
    let m = c.args.m in
    let f = c.in_ok-known.known in
    let k : K.code_of f ≡ g = search rules in
    let q = row-is g m f k c.row_of-row.result c.row_of-row.ensures in
    terms-taken g m c.terms.result c.terms-2.result (known g m f k) (check-accepted m (c.in_ok-check_mark.ensures))
    (a-is g m c.row_of-row.result q c.terms.ensures)
    (b-is g m c.row_of-row.result q c.terms-2.ensures)

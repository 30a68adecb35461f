-- A body is refused at the first double that is not finite.
use Rattle.std.proofs.Common.{rules, ◌≡◌, sym, ◌∙◌, ℤ, Float, true, false, Ok, Err}
use Rattle.algebra.proofs.BoolLaws.{and_first, and_second}
use Rattle.refusal.specs.declared.Refusal.{Refusal}
use Rattle.refusal.specs.declared.Refusal.TheVariants.{BodyNotFinite}
use Rattle.mark.specs.Mark.{vec}
use Rattle.numbers.specs.Whole.{whole_of}
use Rattle.tides.specs.declared.BodyVector.{BodyVector}
use Rattle.tides.specs.Bodies.{wholes, finite, is_number, number_of}
use Rattle.tides.specs.Steps.{clipped, coordinate_of, wholes_of}
use Rattle.refusal.proofs.AnsweredLaws.{kept, dropped}
use Rattle.tides.proofs.bodies.wholes_of.Goals as goal

-- a double that is not finite, and one that is
no-whole : (x : Float) (e : Refusal) → Err e ≡ coordinate_of x → (is_number (whole_of x) ≡ false) × (e ≡ BodyNotFinite)
unfolding coordinate_of
no-whole x e h = dropped (is_number (whole_of x)) (clipped (number_of (whole_of x))) BodyNotFinite e (sym h)

whole : (x : Float) (z : ℤ) → Ok z ≡ coordinate_of x → (is_number (whole_of x) ≡ true) × (z ≡ clipped (number_of (whole_of x)))
unfolding coordinate_of
whole x z h = kept (is_number (whole_of x)) (clipped (number_of (whole_of x))) z BodyNotFinite (sym h)

-- one of the three is not
refused-at : (v : BodyVector) (e : Refusal) → finite v ≡ false → e ≡ BodyNotFinite → Err e ≡ wholes_of v
unfolding wholes_of
refused-at v e h p = rw (h, p)

pub returns-in_err-whole_of : goal.returns-in_err-whole_of
unfolding finite
returns-in_err-whole_of c =
    let r = c.in_err-whole_of.field-0.0 in
    let e : c.from_residual.result ≡ Err r = search rules in
    let v = c.args.v in
    let k = no-whole v.x r c.in_err-whole_of.ensures in
    e ∙ refused-at v r (and_first _ _ (and_first _ _ k.0)) k.1

pub returns-in_err-whole_of-2 : goal.returns-in_err-whole_of-2
unfolding finite
returns-in_err-whole_of-2 c =
    let r = c.in_err-whole_of-2.field-0.0 in
    let e : c.from_residual-in_err-whole_of-2.result ≡ Err r = search rules in
    let v = c.args.v in
    let k = no-whole v.y r c.in_err-whole_of-2.ensures in
    e ∙ refused-at v r (and_first _ _ (and_second _ _ k.0)) k.1

pub returns-in_err-whole_of-3 : goal.returns-in_err-whole_of-3
unfolding finite
returns-in_err-whole_of-3 c =
    let r = c.in_err-whole_of-3.field-0.0 in
    let e : c.from_residual-in_err-whole_of-3.result ≡ Err r = search rules in
    let v = c.args.v in
    let k = no-whole v.z r c.in_err-whole_of-3.ensures in
    e ∙ refused-at v r (and_second _ _ k.0) k.1

placed : (v : BodyVector) (x y z a b d : ℤ) → Ok a ≡ coordinate_of v.x → Ok b ≡ coordinate_of v.y → Ok d ≡ coordinate_of v.z → x ≡ a → y ≡ b → z ≡ d → Ok (vec x y z) ≡ wholes_of v
unfolding wholes_of finite wholes
placed v x y z a b d ea eb ed p q r =
    let k = whole v.x a ea in
    let l = whole v.y b eb in
    let n = whole v.z d ed in
    rw (p, q, r, k.0, l.0, n.0, k.1, l.1, n.1)

pub returns : goal.returns
returns c =
    placed c.args.v _ _ _
    c.in_ok-whole_of.field-0 c.in_ok-whole_of-2.field-0 c.in_ok-whole_of-3.field-0
    c.in_ok-whole_of.ensures c.in_ok-whole_of-2.ensures c.in_ok-whole_of-3.ensures
    (search rules) (search rules) (search rules)

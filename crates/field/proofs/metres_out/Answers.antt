-- Of an accepted card each offset from the mark is a double without loss.
use Rattle.std.proofs.Common.{rules, ◌≡◌, sym, ◌∙◌, ap, ◌≤◌, lit<, ℤ, Ok, Err}
use native.Mathlib.Omega.{arith}
use borrow.Author.Tests.{ne_eqb}
use lib.Ieee.{Float}
use lib.IntN.{nat_abs}
use Rattle.algebra.proofs.Machine.{plain, at, rd}
use Rattle.refusal.specs.declared.Refusal.{Refusal}
use Rattle.refusal.specs.Answered as A
use Rattle.refusal.specs.Answered.{number_of, answered}
use Rattle.refusal.proofs.AnsweredLaws.{some}
use Rattle.mark.specs.declared.Vec3.{Vec3}
use Rattle.mark.specs.Mark.{nowhere}
use Rattle.mark.specs.Ranges.{Within}
use Rattle.card.specs.declared.Card.{Card}
use Rattle.card.specs.Checks.{from_mark, card_number, offset_answer}
use Rattle.card.proofs.CheckLaws.{passed, offset-small, offset-refused, offset-taken}
use Rattle.field.specs.declared.Metres.{Metres}
use Rattle.field.specs.MetresOut.{in_metres, no_metres, metres_of}
use Rattle.field.proofs.metres_out.Goals as goal

refused : (c : Card) (e : Refusal) → number_of e ≡ card_number c → answered no_metres (Err e) ≡ metres_of c
unfolding metres_of
refused c e q = rw (← q, ne_eqb (number_of e) 0 (some e))

-- one component, read back
same : (z : ℤ) → nat_abs z ≤ 1461000000000 → rd z ≡ z
same z h = (at (plain z h) (lit< tt)).told

asks : (z : ℤ) → nat_abs z ≤ 1461000000000 → nat_abs (rd z) ≤ 1461000000000
asks z h = omega (arith, ap nat_abs (same z h))

module _ (c : Card) (v : Vec3) (q : answered nowhere (Ok v) ≡ offset_answer c) where
  is : v ≡ from_mark c.mark c.position
  is = (offset-taken c v q).1

  away : Within 1461000000000 v
  away = rw is (offset-small c.mark c.position (passed c (sym (offset-taken c v q).0)).position)

  taken : (x y z : Float) → x ≡ in_metres (rd v.x) → y ≡ in_metres (rd v.y) → z ≡ in_metres (rd v.z)
      → ◌≡◌ {A = A.Answered Metres} (record { number = 0; value = record { x = x; y = y; z = z } }) (metres_of c)
  unfolding metres_of
  taken x y z e f g =
      let n = sym (offset-taken c v q).0 in
      rw (
        n,
        e ∙ ap in_metres (same v.x away.x ∙ ap (λ (u : Vec3). u.x) is),
        f ∙ ap in_metres (same v.y away.y ∙ ap (λ (u : Vec3). u.y) is),
        g ∙ ap in_metres (same v.z away.z ∙ ap (λ (u : Vec3). u.z) is),
      )

pub returns-in_err-away : goal.returns-in_err-away
returns-in_err-away c =
    let e = c.in_err-away.field-0.0 in
    let r : c.from_residual.result ≡ Err e = search rules in
    ap (answered no_metres) r ∙ refused c.args.c e (offset-refused c.args.c e c.in_err-away.ensures)

pub in_metres-requires : goal.in_metres-requires
in_metres-requires c = asks c.in_ok-away.away.x (away c.args.c c.in_ok-away.away c.in_ok-away.ensures).x

pub in_metres-requires-2 : goal.in_metres-requires-2
in_metres-requires-2 c = asks c.in_ok-away.away.y (away c.args.c c.in_ok-away.away c.in_ok-away.ensures).y

pub in_metres-requires-3 : goal.in_metres-requires-3
in_metres-requires-3 c = asks c.in_ok-away.away.z (away c.args.c c.in_ok-away.away c.in_ok-away.ensures).z

pub returns : goal.returns
returns c = taken c.args.c c.in_ok-away.away c.in_ok-away.ensures _ _ _ c.in_metres.ensures c.in_metres-2.ensures c.in_metres-3.ensures

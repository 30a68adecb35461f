-- Before each pair the bits found are the root's, and after the last they are the root.
use native.Mathlib.Omega.{arith}
use Rattle.std.proofs.Common.{ℕ, ◌≡◌, ◌+◌, ◌-◌, ◌/◌, ◌≤◌, ◌<◌}
use Rattle.numbers.proofs.RootLaws.{root-same}
use Rattle.numbers.proofs.RootPairs.{Turn, first, turn, kept, taken, trial-fits, last}
use Rattle.numbers.proofs.root.Goals as goal
use Rattle.numbers.proofs.root.Goals.{then-rest-trial, else-rest-trial}

pub loop-bit-init : goal.loop-bit-init
loop-bit-init c = first c.args.n _ c.ranges.n.fits (omega arith)

pub overflow_add-trial : goal.overflow_add-trial
overflow_add-trial c =
    let l = c.loop-bit in
    let t : Turn c.args.n l.bit l.rest l.found = turn c.args.n l.bit l.rest l.found l.invariant (omega arith) in
    record { fits = trial-fits c.args.n l.bit l.rest l.found t.held (omega arith) }

pub loop-bit-preserved : goal.loop-bit-preserved
loop-bit-preserved c =
    let n : ℕ = c.args.n in
    let bit : ℕ = c.loop-bit.bit in
    let rest : ℕ = c.loop-bit.rest in
    let found : ℕ = c.loop-bit.found in
    let p = c.loop-bit-test.true in
    let t : Turn n bit rest found = turn n bit rest found c.loop-bit.invariant (omega arith) in
    elim c.if-rest-trial.branch [
      | then-rest-trial w ↦
          let h : rest < found + bit = omega arith in
          let d : c.if-rest-trial.rest ≡ rest = omega arith in
          let e : c.if-rest-trial.found ≡ found / 2 = omega arith in
          t.on _ c.if-rest-trial.rest c.if-rest-trial.found (omega arith) (kept n bit rest found t.held c.if-rest-trial.rest c.if-rest-trial.found h d e)
      | else-rest-trial w ↦
          let h : found + bit ≤ rest = omega arith in
          let d : c.if-rest-trial.rest ≡ rest - (found + bit) = omega arith in
          let e : c.if-rest-trial.found ≡ found + bit - found / 2 = omega arith in
          t.on _ c.if-rest-trial.rest c.if-rest-trial.found (omega arith) (taken n bit rest found t.held c.if-rest-trial.rest c.if-rest-trial.found h d e)
    ]

pub returns : goal.returns
returns c =
    let l = c.loop-bit in
    let h = c.loop-bit-test.false in
    root-same c.args.n l.found (last c.args.n l.bit l.rest l.found l.invariant (omega arith))

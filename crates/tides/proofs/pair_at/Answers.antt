-- Three numbers that are no mark's direction are refused before the bodies.
use Rattle.std.proofs.Common.{sym, ◌∙◌}
use Rattle.tides.proofs.AimLaws.{directed-is, pair-directed, pair-undirected}
use Rattle.tides.proofs.pair_at.Goals as goal

pub returns-then-not-directed : goal.returns-then-not-directed
returns-then-not-directed c = pair-undirected c.args.u c.args.moon c.args.sun (sym c.directed.ensures ∙ c.if-not-directed.true)

pub invariant_of-pair_tide : goal.invariant_of-pair_tide
invariant_of-pair_tide c = record { short = directed-is c.args.u (sym c.directed.ensures ∙ c.if-not-directed.false) }

pub returns : goal.returns
returns c = c.pair_tide.ensures ∙ pair-directed c.args.u c.args.moon c.args.sun (sym c.directed.ensures ∙ c.if-not-directed.false)

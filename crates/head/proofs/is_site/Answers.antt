-- A site has nine bytes, and each fits its place.
use borrow.Author.Tests.{ne_eqb}
use Rattle.head.specs.Head.{site_shape}
use Rattle.head.proofs.HeadLaws.{shape-each}
use Rattle.head.proofs.is_site.Goals as goal

pub returns-then-s-eq9 : goal.returns-then-s-eq9
returns-then-s-eq9 c = shape-each c.args.s.now c.each_fits.result c.if-s-eq9.true c.each_fits.ensures

pub returns-else-s-eq9 : goal.returns-else-s-eq9
unfolding site_shape
returns-else-s-eq9 c = rw (ne_eqb _ 9 c.if-s-eq9.false)

-- The header was taken, and then what was read of the payload.
use Rattle.streams.proofs.LeftLaws.{took_more, took_to}
use Rattle.wire.proofs.read.Goals as goal

pub returns-in_err-length-clause-took : goal.returns-in_err-length-clause-took
returns-in_err-length-clause-took g c = took_more _ _ _ (_, c.in_ok-read_full.ensures.bytes) (took_to _ _ _ c.in_err-length.ensures.err)

pub returns-clause-took : goal.returns-clause-took
returns-clause-took g c = took_more _ _ _ (_, c.in_ok-read_full.ensures.bytes) (_, c.in_ok-length.ensures.bytes)

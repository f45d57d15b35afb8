-- `scan_push::near::readable` meets its contract.
use Rattle.scan_calls.proofs.Chains.{yes, no}
use Rattle.scan_push.proofs.near.readable.Goals as goal

pub returns-then-dropped : goal.returns-then-dropped
returns-then-dropped c = yes c.dropped.ensures _ c.if-dropped.true c.if-dropped.true

pub returns-else-dropped : goal.returns-else-dropped
returns-else-dropped c = no c.dropped.ensures _ c.if-dropped.false c.is_finite32.ensures

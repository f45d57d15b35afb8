-- `scan_calls::reports::correlation_in` meets its contract.
use Rattle.floats.proofs.Laws.{narrow_only}
use Rattle.scan_calls.proofs.reports.correlation_in.Goals as goal

pub returns-in-At : goal.returns-in-At
returns-in-At c = rw c.in-At.is (narrow_only _ _ c.narrowed.ensures)

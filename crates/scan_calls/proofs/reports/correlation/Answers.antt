-- `scan_calls::reports::correlation` meets its contract.
use Rattle.answers.proofs.Cases.{cases}
use Rattle.scan.specs.Calls.{correlation_of}
use Rattle.scan_calls.proofs.reports.correlation.Goals as goal

pub returns-then-n-ne0 : goal.returns-then-n-ne0
unfolding correlation_of
returns-then-n-ne0 c = search (cases, ← c.refusal-n.ensures)

pub returns : goal.returns
unfolding correlation_of
returns c = search (cases, ← c.refusal-n.ensures, ← c.correlation_in.ensures)

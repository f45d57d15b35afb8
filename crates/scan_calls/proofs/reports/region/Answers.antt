-- `scan_calls::reports::region` meets its contract.
use Rattle.answers.proofs.Cases.{cases}
use Rattle.scan.specs.Calls.{region_of}
use Rattle.scan_calls.proofs.reports.region.Goals as goal

pub returns-then-n-ne0 : goal.returns-then-n-ne0
unfolding region_of
returns-then-n-ne0 c = search (cases, ← c.refusal-n.ensures)

pub returns : goal.returns
unfolding region_of
returns c = search (cases, ← c.refusal-n.ensures)

-- `scan_calls::reports::beyond_ceiling` meets its contract.
use Rattle.scan.specs.Calls.{beyond_ceiling}
use Rattle.scan_calls.proofs.reports.beyond_ceiling.Goals as goal

pub returns : goal.returns
unfolding beyond_ceiling
returns c = cc

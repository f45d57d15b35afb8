-- `scan_calls::reports::exhausted` meets its contract.
use Rattle.scan.specs.Calls.{is_exhausted}
use Rattle.scan_calls.proofs.reports.exhausted.Goals as goal

pub returns : goal.returns
unfolding is_exhausted
returns c = cc

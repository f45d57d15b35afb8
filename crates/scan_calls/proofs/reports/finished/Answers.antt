-- `scan_calls::reports::finished` meets its contract.
use Rattle.scan.specs.Calls.{is_finished}
use Rattle.scan_calls.proofs.reports.finished.Goals as goal

pub returns : goal.returns
unfolding is_finished
returns c = cc

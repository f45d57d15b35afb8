-- `scan_calls::reports::refusal` meets its contract.
use Rattle.scan.specs.Calls.{report_refusal}
use Rattle.scan_calls.proofs.reports.refusal.Goals as goal

pub returns : goal.returns
unfolding report_refusal
returns c = c.first_refusals.ensures

-- `scan_calls::restart::reset_refusal` meets its contract.
use Rattle.scan.specs.Calls.{reset_refusal}
use Rattle.scan_calls.proofs.restart.reset_refusal.Goals as goal

pub returns : goal.returns
unfolding reset_refusal
returns c = cc

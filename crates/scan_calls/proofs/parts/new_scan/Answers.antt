-- `scan_calls::parts::new_scan` meets its contract.
use Rattle.scan_calls.proofs.parts.new_scan.Goals as goal

pub returns : goal.returns
returns c = cc

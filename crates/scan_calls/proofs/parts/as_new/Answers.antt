-- `scan_calls::parts::as_new` meets its contract.
use Rattle.scan_calls.proofs.parts.as_new.Goals as goal

pub returns : goal.returns
returns c = cc

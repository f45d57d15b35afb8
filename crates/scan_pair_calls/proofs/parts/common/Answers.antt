-- `scan_pair_calls::parts::common` meets its contract.
use Rattle.scan_pair_calls.proofs.parts.common.Goals as goal

pub returns : goal.returns
returns c = cc

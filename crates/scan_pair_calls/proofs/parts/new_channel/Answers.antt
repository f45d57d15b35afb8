-- `scan_pair_calls::parts::new_channel` meets its contract.
use Rattle.scan_pair_calls.proofs.parts.new_channel.Goals as goal

pub returns : goal.returns
returns c = cc

-- `scan_calls::parts::searching_anew` meets its contract.
use Rattle.scan_calls.proofs.parts.searching_anew.Goals as goal

pub returns : goal.returns
returns c = cc

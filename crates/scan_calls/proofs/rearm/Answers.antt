-- `scan_calls::rearm` meets its contract.
use Rattle.scan.specs.Calls.{rearmed}
use Rattle.scan_calls.proofs.rearm.Goals as goal

pub returns : goal.returns
unfolding rearmed
returns c = record { changed = cc; sums = cc }

-- `scan_calls::discard_near` meets its contract.
use Rattle.scan.specs.Calls.{discarded}
use Rattle.scan_calls.proofs.discard_near.Goals as goal

pub returns : goal.returns
unfolding discarded
returns c = record { changed = cc; sums = cc }

use Rattle.fine.specs.Calls.{last_scan_origin}
use Rattle.fine.proofs.Fine.last_scan_origin.Goals as goal

pub returns : goal.returns
unfolding last_scan_origin
returns c = cc

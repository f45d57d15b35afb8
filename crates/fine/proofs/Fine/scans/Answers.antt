use Rattle.fine.specs.Calls.{scans_of}
use Rattle.fine.proofs.Fine.scans.Goals as goal

pub returns : goal.returns
unfolding scans_of
returns c = cc

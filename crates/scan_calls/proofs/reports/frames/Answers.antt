-- `scan_calls::reports::frames` meets its contract.
use Rattle.scan.specs.Calls.{frames_of}
use Rattle.scan_calls.proofs.reports.frames.Goals as goal

pub returns : goal.returns
unfolding frames_of
returns c = cc

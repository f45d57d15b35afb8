-- `scan_score::quiet` meets its contract.
use Rattle.scan.specs.Scoring.{quiet}
use Rattle.scan_score.proofs.quiet.Goals as goal

pub returns : goal.returns
unfolding quiet
returns c = rw c.mean.ensures

-- `scan_score::after` meets its contract.
use Rattle.scan_score.proofs.after.Goals as goal

pub returns : goal.returns
returns c = rw c.with_near_verdict.ensures

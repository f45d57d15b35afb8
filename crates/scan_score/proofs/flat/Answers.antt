-- `scan_score::flat` meets its contract.
use Rattle.scan.specs.Scoring.{flat}
use Rattle.scan_score.proofs.flat.Goals as goal

pub returns : goal.returns
unfolding flat
returns c = rw c.near_energy.ensures

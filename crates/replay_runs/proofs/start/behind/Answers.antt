-- `behind` meets its contract.
use Rattle.replay_runs.proofs.start.behind.Goals as goal

pub returns : goal.returns
returns c = rw c.stage_of.ensures

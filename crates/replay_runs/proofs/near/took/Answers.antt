-- `took` meets its contract.
use Rattle.replay_runs.proofs.near.took.Goals as goal

pub returns : goal.returns
returns c = rw (c.goes_on.ensures, c.bytes_of.ensures, c.later.ensures)

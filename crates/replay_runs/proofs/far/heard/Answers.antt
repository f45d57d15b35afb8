-- `heard` meets its contract.
use Rattle.replay_runs.proofs.far.heard.Goals as goal

pub returns : goal.returns
returns c = rw (c.is_finite.ensures, c.bytes_of.ensures)

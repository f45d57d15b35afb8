-- `Tracker::fresh` meets its contract.
use Rattle.tracker.specs.Tracker.{fresh}
use Rattle.tracker.proofs.Tracker.fresh.Goals as goal

pub returns : goal.returns
unfolding fresh
returns c = cc

-- `Tracker::confirms` meets its contract.
use Rattle.std.proofs.Common.{rules}
use Rattle.tracker.specs.Cycle.{confirmed}
use Rattle.tracker.proofs.Tracker.confirms.Goals as goal

pub returns : goal.returns
unfolding confirmed
returns c = search rules

-- `Tracker::on_edge` meets its contract.
use Rattle.tracker.specs.Cycle.{edge_cycle}
use Rattle.tracker.proofs.Tracker.on_edge.Goals as goal

pub returns : goal.returns
unfolding edge_cycle
returns c = cc

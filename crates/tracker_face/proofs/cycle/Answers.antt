-- `tracker_face::cycle` meets its contract.
use Rattle.tracker_face.specs.Calls.{cycled_on}
use Rattle.tracker_face.proofs.cycle.Goals as goal

pub returns : goal.returns
unfolding cycled_on
returns c = cc (c.on_cycle.ensures, c.outcome.ensures, c.judged_as.ensures)

-- `Tracker::jumped` meets its contract.
use Rattle.std.proofs.Common.{arith}
use Rattle.std.proofs.lemmas.Grind.{common_steps}
use Rattle.tracker.specs.Cycle.{jumped}
use Rattle.tracker.proofs.Tracker.jumped.Goals as goal

pub returns : goal.returns
unfolding jumped
returns c = grind (arith, common_steps)

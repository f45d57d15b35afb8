use Rattle.fine.specs.Calls.{restarted}
use Rattle.fine.proofs.Fine.restart.Goals as goal

pub returns : goal.returns
unfolding restarted
returns c = cc

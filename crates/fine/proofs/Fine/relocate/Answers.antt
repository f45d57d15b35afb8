use Rattle.fine.specs.Calls.{relocated}
use Rattle.fine.proofs.Fine.relocate.Goals as goal

pub returns : goal.returns
unfolding relocated
returns c = cc

use Rattle.fine.specs.Calls.{was_reset}
use Rattle.fine.proofs.Fine.reset.Goals as goal

pub returns : goal.returns
unfolding was_reset
returns c = cc

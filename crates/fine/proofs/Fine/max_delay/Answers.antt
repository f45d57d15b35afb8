use Rattle.fine.specs.Calls.{max_delay}
use Rattle.fine.proofs.Fine.max_delay.Goals as goal

pub returns : goal.returns
unfolding max_delay
returns c = cc

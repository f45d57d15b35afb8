-- `Ring::dropped` meets its contract.
use Rattle.ring.proofs.Ring.dropped.Goals as goal

pub returns : goal.returns
returns c = cc

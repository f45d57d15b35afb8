-- `Ring::clear` meets its contract.
use Rattle.ring.proofs.Ring.clear.Goals as goal

pub returns : goal.returns
returns c = cc

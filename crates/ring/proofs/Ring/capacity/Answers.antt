-- `Ring::capacity` meets its contract.
use Rattle.ring.proofs.Ring.capacity.Goals as goal

pub returns : goal.returns
returns c = cc

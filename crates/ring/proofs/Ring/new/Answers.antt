-- `Ring::new` meets its contract.
use Rattle.ring.proofs.Ring.new.Goals as goal

pub returns : goal.returns
returns c = cc

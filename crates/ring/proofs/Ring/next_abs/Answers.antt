-- `Ring::next_abs` meets its contract.
use Rattle.ring.proofs.Ring.next_abs.Goals as goal

pub returns : goal.returns
returns c = cc

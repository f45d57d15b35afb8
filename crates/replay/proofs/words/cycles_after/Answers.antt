-- `words::cycles_after` meets its contract: arm by arm.
use Rattle.replay.specs.Words.{cycles_after}
use Rattle.replay.proofs.words.cycles_after.Goals as goal

pub returns-in-Refused : goal.returns-in-Refused
unfolding cycles_after
returns-in-Refused c = rw c.in-Refused.is

pub returns-in-Hold : goal.returns-in-Hold
unfolding cycles_after
returns-in-Hold c = rw c.in-Hold.is c.saturating_add-next.ensures

pub returns-in-Move : goal.returns-in-Move
unfolding cycles_after
returns-in-Move c = rw c.in-Move.is c.saturating_add-next.ensures

pub returns-in-Reacquire : goal.returns-in-Reacquire
unfolding cycles_after
returns-in-Reacquire c = rw c.in-Reacquire.is c.saturating_add-next.ensures

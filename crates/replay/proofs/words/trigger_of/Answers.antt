-- `words::trigger_of` meets its contract: arm by arm.
use Rattle.replay.specs.Words.{trigger_of}
use Rattle.replay.proofs.words.trigger_of.Goals as goal

pub returns-in-Edge : goal.returns-in-Edge
unfolding trigger_of
returns-in-Edge c = rw c.in-Edge.is

pub returns-in-Lost : goal.returns-in-Lost
unfolding trigger_of
returns-in-Lost c = rw c.in-Lost.is

pub returns-in-Jump : goal.returns-in-Jump
unfolding trigger_of
returns-in-Jump c = rw c.in-Jump.is

pub returns-in-Seam : goal.returns-in-Seam
unfolding trigger_of
returns-in-Seam c = rw c.in-Seam.is

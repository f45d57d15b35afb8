-- `log_passes::passing::sort_of` meets its contract.
use Rattle.log_parts.specs.Sorts.{sort_of}
use Rattle.log_passes.proofs.passing.sort_of.Goals as goal

pub returns-in-Replay : goal.returns-in-Replay
unfolding sort_of
returns-in-Replay c = rw c.in-Replay.is

pub returns-in-Frame : goal.returns-in-Frame
unfolding sort_of
returns-in-Frame c = rw c.in-Frame.is

pub returns-in-Cycle : goal.returns-in-Cycle
unfolding sort_of
returns-in-Cycle c = rw c.in-Cycle.is

pub returns-in-Refused : goal.returns-in-Refused
unfolding sort_of
returns-in-Refused c = rw c.in-Refused.is

pub returns-in-End : goal.returns-in-End
unfolding sort_of
returns-in-End c = rw c.in-End.is

pub returns-in-BadHeader : goal.returns-in-BadHeader
unfolding sort_of
returns-in-BadHeader c = rw c.in-BadHeader.is

pub returns-in-BadEvent : goal.returns-in-BadEvent
unfolding sort_of
returns-in-BadEvent c = rw c.in-BadEvent.is

pub returns-in-BadTotals : goal.returns-in-BadTotals
unfolding sort_of
returns-in-BadTotals c = rw c.in-BadTotals.is

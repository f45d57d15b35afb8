-- `log_lines::put_line` meets its contract: arm by arm.
use Rattle.log_lines.specs.Lines.{text_of}
use Rattle.log_lines.proofs.put_line.Goals as goal

pub returns-in-Replay : goal.returns-in-Replay
unfolding text_of
returns-in-Replay c = rw c.in-Replay.is (rw (c.from.ensures, c.from-in-Replay.ensures) at c.put_numbers.ensures)

pub returns-in-Frame : goal.returns-in-Frame
unfolding text_of
returns-in-Frame c = rw c.in-Frame.is c.put_frame.ensures

pub returns-in-Cycle : goal.returns-in-Cycle
unfolding text_of
returns-in-Cycle c = rw c.in-Cycle.is c.put_cycle.ensures

pub returns-in-Refused : goal.returns-in-Refused
unfolding text_of
returns-in-Refused c = rw c.in-Refused.is (rw (c.from-in-Refused.ensures, c.from-in-Refused-2.ensures) at c.put_numbers-in-Refused.ensures)

pub returns-in-End : goal.returns-in-End
unfolding text_of
returns-in-End c = rw c.in-End.is c.put_numbers-in-End.ensures

pub returns-in-BadHeader : goal.returns-in-BadHeader
unfolding text_of
returns-in-BadHeader c = rw c.in-BadHeader.is c.put.ensures

pub returns-in-BadEvent : goal.returns-in-BadEvent
unfolding text_of
returns-in-BadEvent c = rw c.in-BadEvent.is (rw c.from-in-BadEvent.ensures at c.put_number.ensures)

pub returns-in-BadTotals : goal.returns-in-BadTotals
unfolding text_of
returns-in-BadTotals c = rw c.in-BadTotals.is c.put-in-BadTotals.ensures

-- `scan_words::answering::taking_number` meets its contract.
use Rattle.words.specs.Answers.{number}
use Rattle.scan_words.proofs.answering.taking_number.Goals as goal

pub returns-in-Refused : goal.returns-in-Refused
unfolding number
returns-in-Refused c = rw c.in-Refused.is

pub returns-in-Ignored : goal.returns-in-Ignored
unfolding number
returns-in-Ignored c = rw c.in-Ignored.is

pub returns-in-Dropped : goal.returns-in-Dropped
unfolding number
returns-in-Dropped c = rw c.in-Dropped.is

pub returns-in-Taken : goal.returns-in-Taken
unfolding number
returns-in-Taken c = rw c.in-Taken.is

pub returns-in-Full : goal.returns-in-Full
unfolding number
returns-in-Full c = rw c.in-Full.is

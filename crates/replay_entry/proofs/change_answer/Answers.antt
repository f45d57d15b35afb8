-- `change_answer` meets its contract: by the answer.
use Rattle.replay.specs.Words.{change_lines}
use Rattle.replay_entry.proofs.change_answer.Goals as goal

pub returns-in-Refused : goal.returns-in-Refused
unfolding change_lines
returns-in-Refused c = rw c.in-Refused.is

pub returns-in-Done : goal.returns-in-Done
unfolding change_lines
returns-in-Done c = rw c.in-Done.is

-- `log_lines::verdict_in_range` meets its contract: arm by arm; a number of the line fits its type.
use Rattle.log_lines.specs.Lines.{verdict_in_range}
use Rattle.log_lines.proofs.verdict_in_range.Goals as goal

pub returns-in-Hold : goal.returns-in-Hold
unfolding verdict_in_range
returns-in-Hold c = rw c.in-Hold.is

pub returns-in-Move : goal.returns-in-Move
unfolding verdict_in_range
returns-in-Move c = rw c.in-Move.is

pub returns-in-Reacquire : goal.returns-in-Reacquire
unfolding verdict_in_range
returns-in-Reacquire c = rw c.in-Reacquire.is

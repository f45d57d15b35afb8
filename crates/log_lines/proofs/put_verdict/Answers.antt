-- `log_lines::put_verdict` meets its contract: arm by arm.
use Rattle.log_lines.specs.Lines.{verdict_text}
use Rattle.log_lines.proofs.put_verdict.Goals as goal

pub returns-in-Hold : goal.returns-in-Hold
unfolding verdict_text
returns-in-Hold c = rw c.in-Hold.is c.put.ensures

pub returns-in-Move : goal.returns-in-Move
unfolding verdict_text
returns-in-Move c = rw c.in-Move.is c.put_number.ensures

pub returns-in-Reacquire : goal.returns-in-Reacquire
unfolding verdict_text
returns-in-Reacquire c = rw c.in-Reacquire.is c.put_trigger.ensures

-- `log_lines::put_trigger` meets its contract: arm by arm.
use Rattle.log_lines.specs.Lines.{trigger_text}
use Rattle.log_lines.proofs.put_trigger.Goals as goal

pub returns-in-Edge : goal.returns-in-Edge
unfolding trigger_text
returns-in-Edge c = rw c.in-Edge.is c.put.ensures

pub returns-in-Lost : goal.returns-in-Lost
unfolding trigger_text
returns-in-Lost c = rw c.in-Lost.is c.put-in-Lost.ensures

pub returns-in-Jump : goal.returns-in-Jump
unfolding trigger_text
returns-in-Jump c = rw c.in-Jump.is c.put-in-Jump.ensures

pub returns-in-Seam : goal.returns-in-Seam
unfolding trigger_text
returns-in-Seam c = rw c.in-Seam.is c.put-in-Seam.ensures

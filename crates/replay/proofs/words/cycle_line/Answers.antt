-- `words::cycle_line` meets its contract: arm by arm.
use mathlib.Core.Path.{ap}
use Rattle.log_lines.specs.declared.Line.TheVariants as line
use Rattle.log_lines.specs.declared.Verdict.TheVariants as loggedVerdict
use Rattle.log_lines.specs.declared.Trigger.{Trigger}
use Rattle.replay.specs.Words.{cycle_line}
use Rattle.replay.proofs.words.cycle_line.Goals as goal

pub returns-in-Refused : goal.returns-in-Refused
unfolding cycle_line
returns-in-Refused c = rw c.in-Refused.is

pub returns-in-Hold : goal.returns-in-Hold
unfolding cycle_line
returns-in-Hold c = rw c.in-Hold.is

pub returns-in-Move : goal.returns-in-Move
unfolding cycle_line
returns-in-Move c = rw c.in-Move.is

pub returns-in-Reacquire : goal.returns-in-Reacquire
unfolding cycle_line
returns-in-Reacquire c = rw c.in-Reacquire.is (ap (λ (t : Trigger). line.Cycle c.args.cycle (loggedVerdict.Reacquire t)) c.trigger_of.ensures)

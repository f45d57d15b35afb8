-- `log_passes::passing::turned_by` meets its contract.
use Rattle.log_passes.specs.Passing.{turned_by}
use Rattle.log_passes.proofs.passing.turned_by.Goals as goal

pub returns-in-Over : goal.returns-in-Over
unfolding turned_by
returns-in-Over c = rw (c.in-Over.is, ← c.pass_of.ensures) c.step_of.ensures

pub returns-in-Alike : goal.returns-in-Alike
unfolding turned_by
returns-in-Alike c = rw (c.in-Alike.is, ← c.pass_of-in-Alike.ensures) c.step_of-in-Alike.ensures

pub returns-in-First : goal.returns-in-First
unfolding turned_by
returns-in-First c = rw (c.in-First.is, ← c.mark.ensures, ← c.pass_of-in-First.ensures) c.step_of-in-First.ensures

pub returns-in-Second : goal.returns-in-Second
unfolding turned_by
returns-in-Second c = rw (c.in-Second.is, ← c.mark-in-Second.ensures, ← c.pass_of-in-Second.ensures) c.step_of-in-Second.ensures

pub returns-in-Both : goal.returns-in-Both
unfolding turned_by
returns-in-Both c = rw (c.in-Both.is, ← c.mark-in-Both.ensures, ← c.pass_of-in-Both.ensures) c.step_of-in-Both.ensures

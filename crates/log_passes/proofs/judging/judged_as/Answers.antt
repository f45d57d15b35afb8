-- `log_passes::judging::judged_as` meets its contract.
use Rattle.log_passes.specs.Judging.{judged_as}
use Rattle.log_passes.proofs.judging.judged_as.Goals as goal

pub returns-in-Some : goal.returns-in-Some
unfolding judged_as
returns-in-Some c = rw (c.in-Some.is, ← c.saturating_add.ensures)

pub returns-in-None : goal.returns-in-None
unfolding judged_as
returns-in-None c = rw c.in-None.is c.look_at.ensures

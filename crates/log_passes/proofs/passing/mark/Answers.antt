-- `log_passes::passing::mark` meets its contract.
use Rattle.log_passes.specs.Passing.{marked}
use Rattle.log_passes.proofs.Sides.{first_or}
use Rattle.log_passes.proofs.passing.mark.Goals as goal

pub returns : goal.returns
unfolding marked
returns c = rw (← c.saturating_add.ensures, ← first_or, c.or.ensures)

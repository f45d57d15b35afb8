-- `log_passes::passing::sought_line` meets its contract.
use Rattle.answers.proofs.Cases.{cases}
use Rattle.log_passes.specs.Passing.{sought_line}
use Rattle.log_passes.proofs.passing.sought_line.Goals as goal

pub returns-then-is_of : goal.returns-then-is_of
unfolding sought_line
returns-then-is_of c = search (cases, ← c.is_of.ensures)

pub returns : goal.returns
unfolding sought_line
returns c = search (cases, ← c.is_of.ensures)

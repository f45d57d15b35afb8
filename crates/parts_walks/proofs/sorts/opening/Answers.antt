-- `parts_walks::sorts::opening` meets its contract.
use Rattle.parts_walks.proofs.sorts.opening.Goals as goal

pub returns : goal.returns
returns c = (rw c.fresh.ensures, c.requires)

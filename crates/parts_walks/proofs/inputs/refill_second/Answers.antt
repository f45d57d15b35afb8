-- `parts_walks::inputs::refill_second` meets its contract.
use Rattle.pipes.proofs.Going.{grows}
use Rattle.parts_walks.proofs.Moving.{still}
use Rattle.parts_walks.proofs.inputs.refill_second.Goals as goal

pub returns : goal.returns
returns c = λ a. record { first = still _ a c.requires.0.first; second = grows _ _ _ _ c.refill.ensures }

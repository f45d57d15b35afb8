-- `parts_walks::inputs::refill_first` meets its contract.
use Rattle.pipes.proofs.Going.{grows}
use Rattle.parts_walks.proofs.Moving.{still}
use Rattle.parts_walks.proofs.inputs.refill_first.Goals as goal

pub returns : goal.returns
returns c = λ b. record { first = grows _ _ _ _ c.refill.ensures; second = still _ b c.requires.0.second }

-- `parts_walks::inputs::past` meets its contract.
use Rattle.pipes.proofs.Going.{passes}
use Rattle.parts_walks.proofs.inputs.past.Goals as goal

pub returns : goal.returns
returns c =
    let start = c.requires in
    let p = c.past.ensures in
    let q = c.past-2.ensures in
    λ a b. record { first = passes _ a _ _ start.first p.0 p.1 p.2 p.3; second = passes _ b _ _ start.second q.0 q.1 q.2 q.3 }

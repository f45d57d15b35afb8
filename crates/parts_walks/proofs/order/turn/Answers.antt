-- `parts_walks::order::turn` meets its contract.
use Rattle.parts_walks.proofs.Moving.{moved_by}
use Rattle.parts_walks.proofs.order.turn.Goals as goal

pub returns : goal.returns
returns c =
    let moved = c.go_on-inputs.ensures in
    let second = c.second_used-v.ensures in
    let first = c.first_used-u.ensures in
    record { said = c.ask-next.ensures; done = moved_by _ _ _ _ _ _ _ _ _ _ first second moved }

-- `parts_walks::inputs::go_on` meets its contract: what is passed, and then read on or not.
use Rattle.parts_walks.proofs.Moving.{both_within, then_both}
use Rattle.parts_walks.proofs.inputs.go_on.Goals as goal

pub refill_first-requires : goal.refill_first-requires
refill_first-requires c = (both_within _ _ _ _ c.past-rest.ensures, c.requires.1)

pub refill_second-requires : goal.refill_second-requires
refill_second-requires c = (both_within _ _ _ _ c.past-rest.ensures, c.requires.2)

pub returns-in-None : goal.returns-in-None
returns-in-None c = c.past-rest.ensures _ _

pub returns-in-Some-First : goal.returns-in-Some-First
returns-in-Some-First c = then_both _ _ _ _ _ _ _ _ _ (c.past-rest.ensures _ _) (c.refill_first.ensures _)

pub returns-in-Some-Second : goal.returns-in-Some-Second
returns-in-Some-Second c = then_both _ _ _ _ _ _ _ _ _ (c.past-rest.ensures _ _) (c.refill_second.ensures _)

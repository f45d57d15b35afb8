-- `log_passes::beside::beside_end` meets its contract.
use Rattle.log_passes.specs.Beside.{if_more}
use Rattle.log_passes.proofs.beside.beside_end.Goals as goal

pub returns-in-Text : goal.returns-in-Text
unfolding if_more
returns-in-Text c = rw c.in-Text.is c.asked.ensures

pub returns-in-Nothing : goal.returns-in-Nothing
unfolding if_more
returns-in-Nothing c = rw c.in-Nothing.is c.asked-in-Nothing.ensures

pub returns-in-Wants : goal.returns-in-Wants
unfolding if_more
returns-in-Wants c = rw c.in-Wants.is c.asked-in-Wants.ensures

pub returns-in-Long : goal.returns-in-Long
unfolding if_more
returns-in-Long c = rw c.in-Long.is c.asked-in-Long.ensures

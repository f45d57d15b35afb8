-- `log_parts::turn_of` meets its contract, arm by arm.
use Rattle.log_parts.specs.Turns.{turn_of}
use Rattle.log_parts.proofs.turn_of.Goals as goal

pub returns-in-None-None : goal.returns-in-None-None
unfolding turn_of
returns-in-None-None c = rw (c.in-None-None.is-0, c.in-None-None.is-1)

pub returns-in-None-Some : goal.returns-in-None-Some
unfolding turn_of
returns-in-None-Some c = rw (c.in-None-Some.is-0, c.in-None-Some.is-1)

pub returns-in-Some-None : goal.returns-in-Some-None
unfolding turn_of
returns-in-Some-None c = rw (c.in-Some-None.is-0, c.in-Some-None.is-1)

-- `replay_sink::finish` meets its contract.
use Rattle.replay_sink.proofs.Sinks.{fits_writes, fits_checks, finish_writes, finish_checks}
use Rattle.replay_sink.proofs.finish.Goals as goal

pub drain-requires : goal.drain-requires
drain-requires c = (fits_writes _ _ _ c.in-Writes.is c.requires).1

pub closed_if-requires : goal.closed_if-requires
closed_if-requires c = ((fits_checks _ _ _ c.in-Checks.is c.requires).1, (fits_checks _ _ _ c.in-Checks.is c.requires).0)

pub returns-in-Writes : goal.returns-in-Writes
returns-in-Writes c = finish_writes _ _ _ _ _ c.in-Writes.is c.requires c.drain.ensures.0 c.drain.ensures.1

pub returns-in-Checks : goal.returns-in-Checks
returns-in-Checks c = finish_checks _ _ _ _ _ _ c.in-Checks.is c.requires c.closed_if.auto.room c.closed_if.ensures

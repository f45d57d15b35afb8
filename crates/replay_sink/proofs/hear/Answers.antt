-- `replay_sink::hear` meets its contract.
use Rattle.replay_sink.proofs.Sinks.{fits_writes, fits_checks, heard_writes, heard_checks}
use Rattle.replay_sink.proofs.hear.Goals as goal

pub write-requires : goal.write-requires
write-requires c = (fits_writes _ _ _ c.in-Writes.is c.requires).1

pub hold_next-requires : goal.hold_next-requires
hold_next-requires c =
    let f = fits_checks _ _ _ c.in-Checks.is c.requires in
    (f.1, f.0)

pub returns-in-Writes : goal.returns-in-Writes
returns-in-Writes c = heard_writes _ _ _ _ _ _ c.in-Writes.is c.requires c.write.auto.room c.write.ensures

pub returns-in-Checks : goal.returns-in-Checks
returns-in-Checks c = heard_checks _ _ _ _ _ _ c.in-Checks.is c.requires c.hold_next.auto.room c.hold_next.ensures

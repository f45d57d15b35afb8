-- `scan_push::near::dropped` meets its contract.
use Rattle.answers.proofs.Cases.{cases}
use Rattle.scan_push.proofs.near.dropped.Goals as goal

pub returns-then-idle : goal.returns-then-idle
returns-then-idle c = search (cases, ← c.idle.ensures)

pub returns-else-idle : goal.returns-else-idle
returns-else-idle c = search (cases, ← c.idle.ensures)

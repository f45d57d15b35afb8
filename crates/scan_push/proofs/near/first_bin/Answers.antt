-- `scan_push::near::first_bin` meets its contract.
use Rattle.answers.proofs.Cases.{cases}
use Rattle.scan_push.proofs.near.first_bin.Goals as goal

pub returns-then-idle : goal.returns-then-idle
returns-then-idle c = search (cases, ← c.idle.ensures)

pub returns : goal.returns
returns c = search (cases, ← c.idle.ensures)

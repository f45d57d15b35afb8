-- `scan_push::near::taken` meets its contract.
use Rattle.answers.proofs.Cases.{cases}
use Rattle.scan_push.proofs.near.taken.Goals as goal

pub returns-then-near-scan : goal.returns-then-near-scan
returns-then-near-scan c = search (cases, ← c.with_near-with.ensures)

pub returns : goal.returns
returns c = search (cases, ← c.with_near-with.ensures)

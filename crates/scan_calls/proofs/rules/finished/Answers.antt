-- `scan_calls::rules::finished` meets its contract: by its tests.
use Rattle.answers.proofs.Cases.{cases}
use Rattle.scan_calls.proofs.rules.finished.Goals as goal

pub returns-then-present : goal.returns-then-present
returns-then-present c = search (cases, ← c.present.ensures)

pub returns-else-present : goal.returns-else-present
returns-else-present c = search (cases, ← c.present.ensures)

-- `scan_decision::rival_with` meets its contract: by its tests.
use Rattle.answers.proofs.Cases.{cases}
use Rattle.scan_decision.proofs.rival_with.Goals as goal

pub returns-then-abs_diff-g : goal.returns-then-abs_diff-g
returns-then-abs_diff-g c = search (cases, ← c.abs_diff.ensures)

pub returns-then-best-x : goal.returns-then-best-x
returns-then-best-x c = search (cases, ← c.abs_diff.ensures)

pub returns-else-best-x : goal.returns-else-best-x
returns-else-best-x c = search (cases, ← c.abs_diff.ensures)

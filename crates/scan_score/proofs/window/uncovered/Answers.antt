-- `scan_score::window::uncovered` meets its contract: by its tests.
use Rattle.answers.proofs.Cases.{cases}
use Rattle.scan.specs.Scoring.{uncovered}
use Rattle.scan_score.proofs.window.uncovered.Goals as goal

pub returns-then-first-g : goal.returns-then-first-g
unfolding uncovered
returns-then-first-g c = search cases

pub returns-else-first-g : goal.returns-else-first-g
unfolding uncovered
returns-else-first-g c = search (cases, c.saturating_sub.ensures, c.envelope_len.ensures)

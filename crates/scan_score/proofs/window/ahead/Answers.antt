-- `scan_score::window::ahead` meets its contract.
use Rattle.answers.proofs.Cases.{cases}
use Rattle.scan.specs.Scoring.{ahead}
use Rattle.scan_score.proofs.window.ahead.Goals as goal

pub returns : goal.returns
unfolding ahead
returns c = search (cases, c.saturating_sub.ensures)

-- `scan_runs::fills` meets its contract.
use Rattle.answers.proofs.Cases.{cases}
use Rattle.scan_runs.proofs.fills.Goals as goal

pub returns-then-n-g : goal.returns-then-n-g
returns-then-n-g c = search cases

pub returns-else-n-g : goal.returns-else-n-g
returns-else-n-g c = search cases

-- `scan_calls::rules::whole_if_full` meets its contract: by its tests.
use Rattle.answers.proofs.Cases.{cases}
use Rattle.scan_calls.proofs.rules.whole_if_full.Goals as goal

pub returns-then-n-g : goal.returns-then-n-g
returns-then-n-g c = search cases

pub returns-else-n-g : goal.returns-else-n-g
returns-else-n-g c = search cases

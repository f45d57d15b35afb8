-- `scan_calls::rules::idle` meets its contract: by its tests.
use Rattle.answers.proofs.Cases.{cases}
use Rattle.scan_calls.proofs.rules.idle.Goals as goal

pub returns-then-n-eq0 : goal.returns-then-n-eq0
returns-then-n-eq0 c = search cases

pub returns-else-n-eq0 : goal.returns-else-n-eq0
returns-else-n-eq0 c = search cases

-- `tracker::at_limit` meets its contract.
use Rattle.answers.proofs.Cases.{cases}
use Rattle.tracker.proofs.at_limit.Goals as goal

pub returns-then-run-most : goal.returns-then-run-most
returns-then-run-most c = search (cases)

pub returns-else-run-most : goal.returns-else-run-most
returns-else-run-most c = search (cases)

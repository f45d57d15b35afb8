-- `log_hold::right_if` meets its contract.
use Rattle.answers.proofs.Cases.{cases}
use Rattle.log_hold.proofs.right_if.Goals as goal

pub returns-then-same : goal.returns-then-same
returns-then-same c = search cases

pub returns : goal.returns
returns c = search cases

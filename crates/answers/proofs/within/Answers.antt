-- `answers::within` meets its contract.
use Rattle.answers.proofs.Cases.{cases}
use Rattle.answers.proofs.within.Goals as goal

pub returns-then-n-lo : goal.returns-then-n-lo
returns-then-n-lo c = search cases

pub returns : goal.returns
returns c = search cases

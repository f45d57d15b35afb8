-- `Ring::changed` meets its contract.
use Rattle.answers.proofs.Cases.{cases}
use Rattle.ring.specs.Ring.{changed}
use Rattle.ring.proofs.Ring.changed.Goals as goal

pub returns-then-refusal-ne0 : goal.returns-then-refusal-ne0
unfolding changed
returns-then-refusal-ne0 c = search (cases)

pub returns : goal.returns
unfolding changed
returns c = search (cases)

use Rattle.answers.proofs.Cases.{cases}
use Rattle.fine.specs.Calls.{changed}
use Rattle.fine.proofs.Fine.changed.Goals as goal

pub returns-then-refusal-ne0 : goal.returns-then-refusal-ne0
unfolding changed
returns-then-refusal-ne0 c = search cases

pub returns : goal.returns
unfolding changed
returns c = search cases

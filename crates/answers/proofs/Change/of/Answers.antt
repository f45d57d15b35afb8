-- `Change::of` meets its contract.
use Rattle.answers.proofs.Cases.{cases}
use Rattle.answers.specs.Answers.{changing}
use Rattle.answers.proofs.Change.of.Goals as goal

pub returns-then-refusal-ne0 : goal.returns-then-refusal-ne0
unfolding changing
returns-then-refusal-ne0 c = search cases

pub returns : goal.returns
unfolding changing
returns c = search cases

-- `Count::of` meets its contract.
use Rattle.answers.proofs.Cases.{cases}
use Rattle.answers.specs.Answers.{counted}
use Rattle.answers.proofs.Count.of.Goals as goal

pub returns-then-refusal-ne0 : goal.returns-then-refusal-ne0
unfolding counted
returns-then-refusal-ne0 c = search cases

pub returns : goal.returns
unfolding counted
returns c = search cases

-- `Flag::of` meets its contract.
use Rattle.answers.proofs.Cases.{cases}
use Rattle.answers.specs.Answers.{flagged}
use Rattle.answers.proofs.Flag.of.Goals as goal

pub returns-then-refusal-ne0 : goal.returns-then-refusal-ne0
unfolding flagged
returns-then-refusal-ne0 c = search cases

pub returns : goal.returns
unfolding flagged
returns c = search cases

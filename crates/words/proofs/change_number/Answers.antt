-- `words::change_number` meets its contract.
use Rattle.words.specs.Answers.{number}
use borrow.Author.Rules.{rules}
use Rattle.words.proofs.change_number.Goals as goal

pub returns-in-Refused : goal.returns-in-Refused
unfolding number
returns-in-Refused c = search rules

pub returns-in-Done : goal.returns-in-Done
unfolding number
returns-in-Done c = search rules

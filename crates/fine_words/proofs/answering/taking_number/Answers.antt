-- `fine_words::answering::taking_number` meets its contract.
use Rattle.words.specs.Answers.{number}
use borrow.Author.Rules.{rules}
use Rattle.fine_words.proofs.answering.taking_number.Goals as goal

pub returns-in-Refused : goal.returns-in-Refused
unfolding number
returns-in-Refused c = search rules

pub returns-in-Taken : goal.returns-in-Taken
unfolding number
returns-in-Taken c = search rules

pub returns-in-Full : goal.returns-in-Full
unfolding number
returns-in-Full c = search rules

-- `fine_words::answering::rescan_number` meets its contract.
use Rattle.words.specs.Answers.{number}
use borrow.Author.Rules.{rules}
use Rattle.fine_words.proofs.answering.rescan_number.Goals as goal

pub returns-in-Refused : goal.returns-in-Refused
unfolding number
returns-in-Refused c = search rules

pub returns-in-NothingRetained : goal.returns-in-NothingRetained
unfolding number
returns-in-NothingRetained c = search rules

pub returns-in-Skipped : goal.returns-in-Skipped
unfolding number
returns-in-Skipped c = search rules

pub returns-in-Silent : goal.returns-in-Silent
unfolding number
returns-in-Silent c = search rules

pub returns-in-Taken : goal.returns-in-Taken
unfolding number
returns-in-Taken c = search rules

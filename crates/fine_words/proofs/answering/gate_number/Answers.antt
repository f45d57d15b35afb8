-- `fine_words::answering::gate_number` meets its contract.
use Rattle.words.specs.Answers.{number}
use borrow.Author.Rules.{rules}
use Rattle.fine_words.proofs.answering.gate_number.Goals as goal

pub returns-in-Refused : goal.returns-in-Refused
unfolding number
returns-in-Refused c = search rules

pub returns-in-Skipped : goal.returns-in-Skipped
unfolding number
returns-in-Skipped c = search rules

pub returns-in-Silent : goal.returns-in-Silent
unfolding number
returns-in-Silent c = search rules

pub returns-in-First : goal.returns-in-First
unfolding number
returns-in-First c = search rules

pub returns-in-Later : goal.returns-in-Later
unfolding number
returns-in-Later c = search rules

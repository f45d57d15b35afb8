-- `words::flag_number` meets its contract.
use Rattle.answers.proofs.Cases.{cases}
use Rattle.answers.specs.Pick.{pick}
use Rattle.words.specs.Answers.{number}
use borrow.Author.Rules.{rules}
use Rattle.words.proofs.flag_number.Goals as goal

pub returns-in-Refused : goal.returns-in-Refused
unfolding number pick
returns-in-Refused c = search rules

pub returns-then-yes : goal.returns-then-yes
unfolding number pick
returns-then-yes c = search cases

pub returns-else-yes : goal.returns-else-yes
unfolding number pick
returns-else-yes c = search cases

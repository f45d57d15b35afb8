-- `words::tell_count` meets its contract.
use Rattle.answers.proofs.Cases.{cases}
use Rattle.words.specs.Answers.{number, values_of, put_from}
use borrow.Author.Rules.{rules}
use Rattle.words.proofs.tell_count.Goals as goal

pub returns-in-Refused : goal.returns-in-Refused
unfolding number values_of put_from
returns-in-Refused c = search rules

pub returns-in-Is : goal.returns-in-Is
unfolding number values_of put_from
returns-in-Is c = record { number = search cases; values = rw c.in-Is.is }

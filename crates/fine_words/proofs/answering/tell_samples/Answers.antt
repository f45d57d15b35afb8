-- `fine_words::answering::tell_samples` meets its contract.
use Rattle.words.specs.Answers.{number, values_of, put_from}
use borrow.Author.Rules.{rules}
use Rattle.fine_words.proofs.answering.tell_samples.Goals as goal

pub returns-in-Refused : goal.returns-in-Refused
unfolding number values_of put_from
returns-in-Refused c = record { number = search rules; values = search rules }

pub returns-in-Is : goal.returns-in-Is
unfolding number values_of put_from
returns-in-Is c = record { number = rw c.in-Is.is; values = rw c.in-Is.is }

-- `fine_words::answering::tell_place` meets its contract.
use Rattle.words.specs.Answers.{number, values_of, put_from}
use borrow.Author.Rules.{rules}
use Rattle.fine_words.proofs.answering.tell_place.Goals as goal

pub returns-in-None : goal.returns-in-None
unfolding number values_of put_from
returns-in-None c = record { number = search rules; values = search rules }

pub returns-in-Some : goal.returns-in-Some
unfolding number values_of put_from
returns-in-Some c = let e = c.in-Some.is in record { number = rw e; values = rw e }

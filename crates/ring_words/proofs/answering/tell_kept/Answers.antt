-- `ring_words::answering::tell_kept` meets its contract.
use Rattle.answers.proofs.Cases.{cases}
use Rattle.words.specs.Answers.{number, values_of, put_from}
use borrow.Author.Rules.{rules}
use Rattle.ring_words.proofs.answering.tell_kept.Goals as goal

pub returns-in-Refused : goal.returns-in-Refused
unfolding number values_of put_from
returns-in-Refused c = record { number = search rules; values = search rules }

pub returns-in-NotKept : goal.returns-in-NotKept
unfolding number values_of put_from
returns-in-NotKept c = record { number = search rules; values = search rules }

pub returns-in-At : goal.returns-in-At
unfolding number values_of put_from
returns-in-At c = record { number = search (cases, c.in-At.is); values = search (cases, c.in-At.is) }

-- `ring_window_face::tell_reading` meets its contract.
use Rattle.answers.proofs.Cases.{cases}
use Rattle.words.specs.Answers.{number, values_of, put_from}
use borrow.Author.Rules.{rules}
use Rattle.ring_window_face.proofs.tell_reading.Goals as goal

pub returns-in-Refused : goal.returns-in-Refused
unfolding number values_of put_from
returns-in-Refused c = record { number = search rules; values = search rules }

pub returns-in-Read : goal.returns-in-Read
unfolding number values_of put_from
returns-in-Read c = record { number = search (cases, c.in-Read.is); values = search (cases, c.in-Read.is) }

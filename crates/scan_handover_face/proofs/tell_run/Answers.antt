-- `scan_handover_face::tell_run` meets its contract.
use Rattle.answers.proofs.Cases.{cases}
use Rattle.words.specs.Answers.{number, values_of, put_from}
use borrow.Author.Rules.{rules}
use Rattle.scan_handover_face.proofs.tell_run.Goals as goal

pub returns-in-Refused : goal.returns-in-Refused
unfolding number values_of put_from
returns-in-Refused c = record { number = search rules; values = search rules }

pub returns-in-Ignored : goal.returns-in-Ignored
unfolding number values_of put_from
returns-in-Ignored c = record { number = search (cases, c.in-Ignored.is); values = search (cases, c.in-Ignored.is) }

pub returns-in-Taken : goal.returns-in-Taken
unfolding number values_of put_from
returns-in-Taken c = record { number = search (cases, c.in-Taken.is); values = search (cases, c.in-Taken.is) }

pub returns-in-Full : goal.returns-in-Full
unfolding number values_of put_from
returns-in-Full c = record { number = search (cases, c.in-Full.is); values = search (cases, c.in-Full.is) }

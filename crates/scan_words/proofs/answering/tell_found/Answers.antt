-- `scan_words::answering::tell_found` meets its contract.
use Rattle.words.specs.Answers.{number}
use Rattle.scan_words.specs.Answers.{found_given}
use borrow.Author.Rules.{rules}
use Rattle.scan_words.proofs.answering.tell_found.Goals as goal

pub returns-in-Nothing : goal.returns-in-Nothing
unfolding number found_given
returns-in-Nothing c = record { number = search rules; values = search rules }

pub returns-in-At : goal.returns-in-At
unfolding number found_given
returns-in-At c = record { number = cc; values = cc }

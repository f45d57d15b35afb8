-- `scan_words::answering::tell_level` meets its contract.
use Rattle.words.specs.Answers.{number}
use Rattle.scan_words.specs.Answers.{level_given}
use borrow.Author.Rules.{rules}
use Rattle.scan_words.proofs.answering.tell_level.Goals as goal

pub returns-in-Refused : goal.returns-in-Refused
unfolding number level_given
returns-in-Refused c = record { number = search rules; values = search rules }

pub returns-in-Is : goal.returns-in-Is
unfolding number level_given
returns-in-Is c = record { number = rw c.in-Is.is; values = rw (c.in-Is.is, c.pattern32.ensures) }

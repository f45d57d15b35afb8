-- `scan_words::answering::tell_region` meets its contract.
use Rattle.words.specs.Answers.{number}
use Rattle.scan_words.specs.Answers.{region_given}
use borrow.Author.Rules.{rules}
use Rattle.scan_words.proofs.answering.tell_region.Goals as goal

pub returns-in-Refused : goal.returns-in-Refused
unfolding number region_given
returns-in-Refused c = record { number = search rules; values = search rules }

pub returns-in-Is : goal.returns-in-Is
unfolding number region_given
returns-in-Is c = record { number = cc; values = cc }

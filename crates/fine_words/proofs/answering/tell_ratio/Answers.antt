-- `fine_words::answering::tell_ratio` meets its contract.
use Rattle.words.specs.Answers.{number}
use Rattle.fine_words.specs.Answers.{ratio_given}
use borrow.Author.Rules.{rules}
use Rattle.fine_words.proofs.answering.tell_ratio.Goals as goal

pub returns-in-Refused : goal.returns-in-Refused
unfolding number ratio_given
returns-in-Refused c = record { number = search rules; values = search rules }

pub returns-in-Is : goal.returns-in-Is
unfolding number ratio_given
returns-in-Is c = record { number = cc; values = cc }

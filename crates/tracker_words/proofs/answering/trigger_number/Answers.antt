-- `tracker_words::answering::trigger_number` meets its contract.
use Rattle.words.specs.Answers.{number}
use borrow.Author.Rules.{rules}
use Rattle.tracker_words.proofs.answering.trigger_number.Goals as goal

pub returns-in-Edge : goal.returns-in-Edge
unfolding number
returns-in-Edge c = search rules

pub returns-in-Lost : goal.returns-in-Lost
unfolding number
returns-in-Lost c = search rules

pub returns-in-Jump : goal.returns-in-Jump
unfolding number
returns-in-Jump c = search rules

pub returns-in-Seam : goal.returns-in-Seam
unfolding number
returns-in-Seam c = search rules

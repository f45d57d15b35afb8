-- `scan_words::answering::tell_scoring` meets its contract.
use mathlib.Core.Path.{sym, ◌∙◌}
use Rattle.words.specs.Answers.{number}
use Rattle.scan_words.specs.Answers.{scoring_given}
use Rattle.scan_words.proofs.Given.{products_behind}
use borrow.Author.Rules.{rules}
use Rattle.scan_words.proofs.answering.tell_scoring.Goals as goal

pub returns-in-Refused : goal.returns-in-Refused
unfolding number scoring_given
returns-in-Refused c = record { number = search rules; values = search rules }

pub returns-in-Frame : goal.returns-in-Frame
unfolding number scoring_given
returns-in-Frame c =
    let told = c.tell_frame-number.ensures in
    let e = c.in-Frame.is in
    record {
      number = rw e (told.number ∙ sym (products_behind _ _));
      values = rw (e, told.values);
    }

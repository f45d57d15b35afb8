-- `fine_words::answering::tell_position` meets its contract.
use Rattle.words.specs.Answers.{number, values_of, put_from}
use borrow.Author.Rules.{rules}
use Rattle.fine_words.proofs.answering.tell_position.Goals as goal

pub returns-in-Refused : goal.returns-in-Refused
unfolding number values_of put_from
returns-in-Refused c = record { number = search rules; values = search rules }

pub returns-in-Is : goal.returns-in-Is
returns-in-Is c =
    let e = c.in-Is.is in
    record {
      number = rw e c.tell_place.ensures.number;
      values = rw e c.tell_place.ensures.values;
    }

-- `fine_words::answering::tell_peak` meets its contract.
use lib.Ieee.{binary64}
use Rattle.words.specs.Answers.{number, values_of, put_from}
use Rattle.words.proofs.Back.{alone}
use Rattle.fine_words.specs.Answers.{peak_given}
use borrow.Author.Rules.{rules}
use Rattle.fine_words.proofs.answering.tell_peak.Goals as goal

pub returns-in-Refused : goal.returns-in-Refused
unfolding number values_of put_from peak_given
returns-in-Refused c = record { number = search rules; values = search rules }

pub returns-in-NoCandidate : goal.returns-in-NoCandidate
unfolding number values_of put_from peak_given
returns-in-NoCandidate c = let e = c.in-NoCandidate.is in record { number = rw e; values = rw e }

pub returns-in-Candidate : goal.returns-in-Candidate
unfolding number values_of put_from peak_given
returns-in-Candidate c =
    let e = c.in-Candidate.is in
    record {
      number = rw e;
      values = rw (e, c.pattern.ensures, alone binary64);
    }

-- `scan_words::answering::tell_frame` meets its contract.
use Rattle.words.specs.Answers.{number, values_of, put_from}
use mathlib.Core.Path.{◌∙◌}
use Rattle.scan_words.proofs.answering.tell_frame.Goals as goal

pub returns-in-Uncovered : goal.returns-in-Uncovered
unfolding number values_of put_from
returns-in-Uncovered c = record { number = rw c.in-Uncovered.is; values = rw c.in-Uncovered.is }

pub returns-in-Ahead : goal.returns-in-Ahead
unfolding number values_of put_from
returns-in-Ahead c = record { number = rw c.in-Ahead.is; values = rw c.in-Ahead.is }

pub returns-in-Quiet : goal.returns-in-Quiet
unfolding number values_of put_from
returns-in-Quiet c = record { number = rw c.in-Quiet.is; values = rw c.in-Quiet.is }

pub returns-in-Flat : goal.returns-in-Flat
unfolding number values_of put_from
returns-in-Flat c = record { number = rw c.in-Flat.is; values = rw c.in-Flat.is }

pub returns-in-Banked : goal.returns-in-Banked
unfolding number values_of put_from
returns-in-Banked c = record { number = rw c.in-Banked.is; values = rw (c.in-Banked.is, c.pattern32.ensures) }

pub returns-in-Weak : goal.returns-in-Weak
unfolding number values_of put_from
returns-in-Weak c = record { number = rw c.in-Weak.is; values = rw c.in-Weak.is }

pub returns-in-Ceiling : goal.returns-in-Ceiling
unfolding number values_of put_from
returns-in-Ceiling c = record { number = rw c.in-Ceiling.is; values = rw c.in-Ceiling.is }

pub returns-in-Crowded : goal.returns-in-Crowded
unfolding number values_of put_from
returns-in-Crowded c = record { number = rw c.in-Crowded.is; values = rw c.in-Crowded.is }

pub returns-in-Region : goal.returns-in-Region
unfolding number values_of put_from
returns-in-Region c = record { number = rw c.in-Region.is; values = c.place.ensures ∙ rw (c.in-Region.is, c.pattern64.ensures) }

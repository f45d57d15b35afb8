-- `log_lines::put_word` meets its contract: arm by arm.
use Rattle.log_lines.specs.Lines.{word_text}
use Rattle.log_lines.proofs.put_word.Goals as goal

pub returns-in-Uncovered : goal.returns-in-Uncovered
unfolding word_text
returns-in-Uncovered c = rw c.in-Uncovered.is c.put.ensures

pub returns-in-Ahead : goal.returns-in-Ahead
unfolding word_text
returns-in-Ahead c = rw c.in-Ahead.is c.put-in-Ahead.ensures

pub returns-in-Quiet : goal.returns-in-Quiet
unfolding word_text
returns-in-Quiet c = rw c.in-Quiet.is c.put-in-Quiet.ensures

pub returns-in-Flat : goal.returns-in-Flat
unfolding word_text
returns-in-Flat c = rw c.in-Flat.is c.put-in-Flat.ensures

pub returns-in-Banked : goal.returns-in-Banked
unfolding word_text
returns-in-Banked c = rw c.in-Banked.is (rw c.from.ensures at c.put_number.ensures)

pub returns-in-Weak : goal.returns-in-Weak
unfolding word_text
returns-in-Weak c = rw c.in-Weak.is c.put-in-Weak.ensures

pub returns-in-Ceiling : goal.returns-in-Ceiling
unfolding word_text
returns-in-Ceiling c = rw c.in-Ceiling.is c.put-in-Ceiling.ensures

pub returns-in-Crowded : goal.returns-in-Crowded
unfolding word_text
returns-in-Crowded c = rw c.in-Crowded.is c.put-in-Crowded.ensures

pub returns-in-Region : goal.returns-in-Region
unfolding word_text
returns-in-Region c = rw c.in-Region.is c.put_numbers.ensures

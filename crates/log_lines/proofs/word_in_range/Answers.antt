-- `log_lines::word_in_range` meets its contract: arm by arm; a number of the line fits its type.
use Rattle.std.proofs.Common.{◌^◌, sym, arith, lt-ltb}
use Rattle.log_lines.specs.Lines.{word_in_range}
use Rattle.log_lines.proofs.Ranges.{bits_last}
use Rattle.log_lines.proofs.word_in_range.Goals as goal

pub returns-in-Uncovered : goal.returns-in-Uncovered
unfolding word_in_range
returns-in-Uncovered c = rw c.in-Uncovered.is

pub returns-in-Ahead : goal.returns-in-Ahead
unfolding word_in_range
returns-in-Ahead c = rw c.in-Ahead.is

pub returns-in-Quiet : goal.returns-in-Quiet
unfolding word_in_range
returns-in-Quiet c = rw c.in-Quiet.is

pub returns-in-Flat : goal.returns-in-Flat
unfolding word_in_range
returns-in-Flat c = rw c.in-Flat.is

pub returns-in-Banked : goal.returns-in-Banked
unfolding word_in_range
returns-in-Banked c = rw c.in-Banked.is (sym (lt-ltb c.in-Banked._peak (2 ^ 32) (omega arith)))

pub returns-in-Weak : goal.returns-in-Weak
unfolding word_in_range
returns-in-Weak c = rw c.in-Weak.is

pub returns-in-Ceiling : goal.returns-in-Ceiling
unfolding word_in_range
returns-in-Ceiling c = rw c.in-Ceiling.is

pub returns-in-Crowded : goal.returns-in-Crowded
unfolding word_in_range
returns-in-Crowded c = rw c.in-Crowded.is

pub returns-in-Region : goal.returns-in-Region
unfolding word_in_range
returns-in-Region c = rw c.in-Region.is (bits_last 64 _ _ (omega arith))

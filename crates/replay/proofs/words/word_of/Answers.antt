-- `words::word_of` meets its contract: arm by arm.
use mathlib.Core.Path.{ap}
use Rattle.log_lines.specs.declared.Word.TheVariants as word
use Prim.Native.Nat.{ℕ}
use Rattle.replay.specs.Words.{word_of}
use Rattle.replay.proofs.words.word_of.Goals as goal

pub returns-in-Uncovered : goal.returns-in-Uncovered
unfolding word_of
returns-in-Uncovered c = rw c.in-Uncovered.is

pub returns-in-Ahead : goal.returns-in-Ahead
unfolding word_of
returns-in-Ahead c = rw c.in-Ahead.is

pub returns-in-Quiet : goal.returns-in-Quiet
unfolding word_of
returns-in-Quiet c = rw c.in-Quiet.is

pub returns-in-Flat : goal.returns-in-Flat
unfolding word_of
returns-in-Flat c = rw c.in-Flat.is

pub returns-in-Banked : goal.returns-in-Banked
unfolding word_of
returns-in-Banked c = rw c.in-Banked.is (ap word.Banked c.pattern32.ensures)

pub returns-in-Weak : goal.returns-in-Weak
unfolding word_of
returns-in-Weak c = rw c.in-Weak.is

pub returns-in-Ceiling : goal.returns-in-Ceiling
unfolding word_of
returns-in-Ceiling c = rw c.in-Ceiling.is

pub returns-in-Crowded : goal.returns-in-Crowded
unfolding word_of
returns-in-Crowded c = rw c.in-Crowded.is

pub returns-in-Region : goal.returns-in-Region
unfolding word_of
returns-in-Region c = rw c.in-Region.is (ap (λ (x : ℕ). word.Region c.in-Region.region.delay.0 x) c.pattern64.ensures)

-- The word of a frame line tells what the frame tells, number and values: the log and the C face give one thing.
use mathlib.Core.Path.{◌≡◌, refl}
use Rattle.scan.specs.Told.{frame_told}
use Rattle.scan.specs.declared.Frame.{Frame}
use Rattle.scan.specs.declared.Frame.TheVariants as frame
use Rattle.replay.specs.Words.{word_of, word_told}

pub word_tells : (f : Frame) → word_told (word_of f) ≡ frame_told f
unfolding word_of
word_tells frame.Uncovered = refl
word_tells frame.Ahead = refl
word_tells frame.Quiet = refl
word_tells frame.Flat = refl
word_tells (frame.Banked peak) = refl
word_tells frame.Weak = refl
word_tells frame.Ceiling = refl
word_tells frame.Crowded = refl
word_tells (frame.Region r) = refl

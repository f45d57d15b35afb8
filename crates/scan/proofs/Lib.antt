-- Of the definitions: scripted scans, by computation.
pub mod Runs
-- What an answer tells is the whole answer.
pub mod Faithful
-- The rival of step 7, and the lag sums of four frames (Banked), in a reader's words.
pub mod Rival
-- Laws of choices and lists, allowed settings, sizes of rounded results and of scores.
pub mod Laws
pub mod Settings
pub mod Sizes
pub mod Scores
-- A stream's own state is never broken (Healthy).
pub mod Masked
pub mod Hears
pub mod Held
pub mod Sound
pub mod Accepted
pub mod Contracts
pub mod Numbered
pub mod Keeps
pub mod Fresh
pub mod Banked
-- The work of one frame.
pub mod Work
pub mod Earlier
pub mod Healthy
-- Two worlds that agree on the far blocks that are kept (Alike); far pushes joined, parted and silenced; a log with silence where no frame reads (Compact).
pub mod Alike
pub mod Pushes
pub mod Compact
-- Window, prefixes and scores are scratch.
pub mod Scratch
-- Demand 3 (Forgets), and from four facts alone.
pub mod Late
pub mod Forgets
pub mod FourFacts
-- Holes in the near numbering.
pub mod Holes

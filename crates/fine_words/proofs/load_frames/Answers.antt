-- `fine_words::load_frames` meets its contract.
use Rattle.fine_words.specs.Layout.{loaded_frames}
use borrow.Author.Rules.{rules}
use Rattle.fine_words.proofs.load_frames.Goals as goal

pub returns : goal.returns
unfolding loaded_frames
returns c = search (rules, ← c.half.ensures, ← c.half-2.ensures)

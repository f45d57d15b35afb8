-- `fine_words::load` meets its contract.
use Rattle.fine_words.specs.Layout.{loaded}
use borrow.Author.Rules.{rules}
use Rattle.fine_words.proofs.load.Goals as goal

pub returns : goal.returns
unfolding loaded
returns c = search (rules, ← c.load_lengths.ensures, ← c.load_origin.ensures, ← c.load_frames.ensures, ← c.load_scans.ensures)

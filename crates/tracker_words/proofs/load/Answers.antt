-- `tracker_words::load` meets its contract.
use Rattle.tracker_words.specs.Layout.{loaded}
use borrow.Author.Rules.{rules}
use Rattle.tracker_words.proofs.load.Goals as goal

pub returns : goal.returns
unfolding loaded
returns c = search (rules, ← c.half.ensures, ← c.load_bands.ensures, ← c.load_pending.ensures, ← c.load_delay.ensures, ← c.half-2.ensures, ← c.half-3.ensures, ← c.half-4.ensures, ← c.half-5.ensures)

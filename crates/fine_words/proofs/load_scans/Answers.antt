-- `fine_words::load_scans` meets its contract.
use Rattle.fine_words.specs.Layout.{loaded_scans}
use borrow.Author.Rules.{rules}
use Rattle.fine_words.proofs.load_scans.Goals as goal

pub returns : goal.returns
unfolding loaded_scans
returns c = search (rules, ← c.float64.ensures, ← c.load_peak_at.ensures)

-- `tracker_words::load_bands` meets its contract.
use Rattle.tracker_words.specs.Layout.{loaded_bands}
use borrow.Author.Rules.{rules}
use Rattle.tracker_words.proofs.load_bands.Goals as goal

pub returns : goal.returns
unfolding loaded_bands
returns c = search rules

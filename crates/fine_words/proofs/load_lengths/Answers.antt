-- `fine_words::load_lengths` meets its contract.
use Rattle.fine_words.specs.Layout.{loaded_lengths}
use borrow.Author.Rules.{rules}
use Rattle.fine_words.proofs.load_lengths.Goals as goal

pub returns : goal.returns
unfolding loaded_lengths
returns c = search (rules, ← c.half.ensures)

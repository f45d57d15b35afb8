-- `fine_words::store` meets its contract.
use Rattle.fine_words.specs.Layout.{stored}
use Rattle.fine_words.proofs.store.Goals as goal

pub returns : goal.returns
unfolding stored
returns c = cc (c.put.ensures, c.flag.ensures, c.pattern.ensures, c.peak_flag.ensures, c.first_word.ensures, c.last_word.ensures)

-- `tracker_words::store` meets its contract.
use Rattle.tracker_words.specs.Layout.{stored}
use mathlib.Core.Path.{sym}
use Rattle.tracker_words.proofs.store.Goals as goal

pub put-requires : goal.put-requires
put-requires c = sym c.requires

pub returns : goal.returns
unfolding stored
returns c = cc (c.put.ensures, c.delay_flag.ensures, c.delay_word.ensures, c.delay_flag-2.ensures, c.delay_word-2.ensures, c.flag.ensures)

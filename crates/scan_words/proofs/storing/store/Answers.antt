-- `scan_words::storing::store` meets its contract.
use Rattle.scan_words.specs.Layout.{stored}
use Rattle.scan_words.proofs.storing.store.Goals as goal

pub returns : goal.returns
unfolding stored
returns c = cc

-- `scan_words::storing::store_far` meets its contract.
use Rattle.scan_words.specs.Layout.{stored_far}
use Rattle.scan_words.proofs.storing.store_far.Goals as goal

pub returns : goal.returns
unfolding stored_far
returns c = cc

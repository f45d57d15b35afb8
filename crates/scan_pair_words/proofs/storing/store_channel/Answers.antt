-- `scan_pair_words::storing::store_channel` meets its contract.
use Rattle.scan_pair_words.specs.Layout.{stored_channel}
use Rattle.scan_pair_words.proofs.storing.store_channel.Goals as goal

pub returns : goal.returns
unfolding stored_channel
returns c = cc

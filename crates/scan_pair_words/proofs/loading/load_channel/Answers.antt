-- `scan_pair_words::loading::load_channel` meets its contract.
use Rattle.scan_pair_words.specs.Layout.{loaded_channel}
use Rattle.scan_pair_words.proofs.loading.load_channel.Goals as goal

pub returns : goal.returns
unfolding loaded_channel
returns c = cc

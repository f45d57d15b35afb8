-- `scan_words::loading::load_far` meets its contract.
use Rattle.scan_words.specs.Layout.{loaded_far}
use Rattle.scan_words.proofs.loading.load_far.Goals as goal

pub returns : goal.returns
unfolding loaded_far
returns c = cc

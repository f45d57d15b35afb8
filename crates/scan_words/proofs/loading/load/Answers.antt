-- `scan_words::loading::load` meets its contract.
use Rattle.scan_words.specs.Layout.{loaded}
use Rattle.scan_words.proofs.loading.load.Goals as goal

pub returns : goal.returns
unfolding loaded
returns c = cc

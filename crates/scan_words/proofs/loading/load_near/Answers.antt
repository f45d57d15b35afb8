-- `scan_words::loading::load_near` meets its contract.
use Rattle.scan_words.specs.Layout.{loaded_near}
use Rattle.scan_words.proofs.loading.load_near.Goals as goal

pub returns : goal.returns
unfolding loaded_near
returns c = cc

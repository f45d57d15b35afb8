-- `scan_words::loading::load_verdict` meets its contract.
use Rattle.scan_words.specs.Layout.{loaded_verdict}
use Rattle.scan_words.proofs.loading.load_verdict.Goals as goal

pub returns : goal.returns
unfolding loaded_verdict
returns c = cc

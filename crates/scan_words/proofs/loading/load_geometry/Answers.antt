-- `scan_words::loading::load_geometry` meets its contract.
use Rattle.scan_words.specs.Layout.{loaded_geometry}
use Rattle.scan_words.proofs.loading.load_geometry.Goals as goal

pub returns : goal.returns
unfolding loaded_geometry
returns c = cc

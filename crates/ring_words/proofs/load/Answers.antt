-- `ring_words::load` meets its contract.
use Rattle.ring_words.specs.Layout.{loaded}
use mathlib.Core.Path.{refl}
use Rattle.ring_words.proofs.load.Goals as goal

pub returns : goal.returns
unfolding loaded
returns c = refl

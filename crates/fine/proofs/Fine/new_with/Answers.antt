use mathlib.Core.Path.{refl}
use lib.Ieee.{of_bits}
use Rattle.fine.specs.State.{new_with}
use Rattle.fine.proofs.Fine.new_with.Goals as goal

pub returns : goal.returns
unfolding new_with of_bits
returns c = refl

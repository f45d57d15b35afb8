-- `scan_calls::parts::new_far` meets its contract: the code's 0.0 is +0.
use mathlib.Core.Path.{refl}
use lib.Ieee.{of_bits}
use Rattle.scan_calls.proofs.parts.new_far.Goals as goal

pub returns : goal.returns
unfolding of_bits
returns c = refl

-- `scan_calls::parts::empty` meets its contract: the code's 0.0 is +0.
use mathlib.Core.Path.{refl}
use lib.Ieee.{of_bits}
use Rattle.scan_calls.proofs.parts.empty.Goals as goal

pub returns : goal.returns
unfolding of_bits
returns c = refl

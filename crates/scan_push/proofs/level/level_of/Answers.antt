-- `scan_push::level::level_of` meets its contract.
use Prim.Native.Nat.{◌^◌}
use native.Mathlib.Nat.{le_trans}
use lib.Dec.{le→leb, lit≤}
use lib.Ieee.{in_float}
use Rattle.floats.proofs.Laws.{narrow_only}
use Rattle.scan_push.proofs.level.level_of.Goals as goal

pub int_to_float-g : goal.int_to_float-g
unfolding in_float
int_to_float-g c = le→leb c.args.g.decimation (2 ^ 53) (le_trans c.requires (lit≤ tt))

pub returns : goal.returns
returns c = narrow_only _ _ c.narrowed.ensures

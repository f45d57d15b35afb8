-- `scan_lags::energy_at` meets its contract.
use Rattle.std.proofs.Common.{refl, le→leb}
use lib.Ieee.{in_float}
use Rattle.scan_lags.specs.Lags.{energy_from}
use Rattle.scan_lags.proofs.energy_at.Goals as goal

pub int_to_float-result : goal.int_to_float-result
unfolding in_float
int_to_float-result c = le→leb _ _ c.requires.2

pub returns : goal.returns
unfolding energy_from
returns c = refl

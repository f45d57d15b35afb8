-- `scan_lags::mean` meets its contract.
use lib.Ieee.{in_float}
use Rattle.std.proofs.Common.{le→leb}
use Rattle.scan.specs.Scoring.{mean_of}
use Rattle.scan_lags.proofs.mean.Goals as goal

pub int_to_float-result : goal.int_to_float-result
unfolding in_float
int_to_float-result c = le→leb _ _ c.requires

pub returns : goal.returns
unfolding mean_of
returns c = cc

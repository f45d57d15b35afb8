-- `scan_push::level::summed` meets its contract: a finite value is widened as it is.
use mathlib.Core.Bool.{not}
use lib.Ieee.{binary64, fits, is_nan}
use lib.Ieee.Fits.{and_i, fits_widens}
use Rattle.scan_push.proofs.Numbers.{finite_number, finite_no_nan}
use Rattle.scan_push.proofs.level.summed.Goals as goal

pub float_to_float-sample : goal.float_to_float-sample
float_to_float-sample c =
    let x = c.args.sample in
    and_i (fits binary64 x) (not (is_nan x)) (fits_widens x c.row_known-1.given) (finite_number x c.requires)

pub unsigned-requires : goal.unsigned-requires
unsigned-requires c = finite_no_nan c.args.sample c.requires

pub returns : goal.returns
returns c = cc

-- `scan_calls::rules::in_bins` meets its contract: the product of two numbers below 2^32 fits.
use Prim.Native.Nat.{◌*◌, ◌^◌, ◌≤◌, ◌<◌}
use native.Mathlib.Nat.{mul-le-mul, lt_of_le_of_lt}
use native.Mathlib.Omega.{arith}
use Rattle.scan_calls.proofs.rules.in_bins.Goals as goal
use Rattle.scan_calls.proofs.rules.in_bins.Goals.{Start}

fits : (c : Start) → c.args.ms * c.args.rate < 2 ^ 64
fits c =
    let a : c.args.ms ≤ 0xffff_ffff = omega (arith, c.ranges.ms) in
    let b : c.args.rate ≤ 0xffff_ffff = omega (arith, c.requires) in
    lt_of_le_of_lt (mul-le-mul a b) (omega arith)

pub overflow_mul-ms : goal.overflow_mul-ms
overflow_mul-ms c = record { fits = fits c }

pub returns : goal.returns
returns c = record { is = omega (arith, c.max.ensures); small = omega (arith, fits c.before, c.max.ensures) }

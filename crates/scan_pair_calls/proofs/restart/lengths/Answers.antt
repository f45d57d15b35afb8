-- `scan_pair_calls::restart::lengths` meets its contract.
use Rattle.std.proofs.Common.{arith}
use Rattle.answers.specs.Pick.{pick}
use Rattle.answers.proofs.Cases.{cases}
use Rattle.scan_pair_calls.proofs.restart.lengths.Goals as goal

pub returns-then-first_sums-lags : goal.returns-then-first_sums-lags
unfolding pick
returns-then-first_sums-lags c = grind (arith, cases)

pub returns-else-first_sums-lags : goal.returns-else-first_sums-lags
unfolding pick
returns-else-first_sums-lags c = grind (arith, cases)

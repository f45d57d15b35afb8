use Rattle.std.proofs.Common.{◌≡◌, ◌+◌, ◌*◌}
use Rattle.folds.specs.Sums.{table}
use Rattle.scan_lags.specs.Lags.{products_of}
use Rattle.scan_lags.proofs.products_of_block.Given as goal

abbrev pub invariant-loop-pair : goal.invariant-loop-pair
invariant-loop-pair l = l.sums ≡ table (λ j. products_of l.near l.window (2 * l.pair) (l.k + j)) 16

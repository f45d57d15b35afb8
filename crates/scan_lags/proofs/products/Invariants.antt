use Rattle.std.proofs.Common.{◌≡◌}
use Rattle.folds.specs.Sums.{upto}
use Rattle.scan_lags.specs.Lags.{product_at}
use Rattle.scan_lags.proofs.products.Given as goal

abbrev pub invariant-loop-i : goal.invariant-loop-i
invariant-loop-i l = l.sum ≡ upto (product_at l.near l.window l.k) l.i

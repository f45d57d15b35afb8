-- `scan_lags::products` meets its contract. Invariant: the sum is that of the first i products.
use Rattle.std.proofs.Common.{◌≡◌, arith, rules}
use lib.Ieee.{of_bits}
use Rattle.folds.specs.Sums.{upto}
use Rattle.folds.proofs.Laws.{more}
use Rattle.scan_lags.specs.Lags.{product_at}
use Rattle.scan_lags.proofs.products.Goals as goal

pub loop-i-init : goal.loop-i-init
unfolding upto of_bits
loop-i-init c = search rules

pub loop-i-preserved : goal.loop-i-preserved
loop-i-preserved c =
    more (product_at c.args.near.now c.args.window.now c.args.k) c.loop-i.i c.loop-i.sum c.loop-i.invariant

pub returns : goal.returns
returns c = let e : c.loop-i.i ≡ c.args.frame = omega arith in rw e at c.loop-i.invariant

-- `folds::sum` meets its contract. Invariant: the total is the sum of the values before this one.
use Rattle.std.proofs.Common.{refl}
use lib.Ieee.{of_bits}
use Rattle.folds.specs.Sums.{upto, at}
use Rattle.folds.proofs.Laws.{more}
use Rattle.folds.proofs.sum.Goals as goal

pub loop-x-init : goal.loop-x-init
unfolding upto of_bits
loop-x-init c = refl

pub loop-x-preserved : goal.loop-x-preserved
loop-x-preserved c = let l = c.loop-x in cc (more (at c.args.xs.now) l.x-index l.total l.invariant)

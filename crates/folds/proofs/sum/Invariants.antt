use Rattle.std.proofs.Common.{◌≡◌}
use Rattle.folds.specs.Sums.{upto, at}
use Rattle.folds.proofs.sum.Given as goal

abbrev pub invariant-loop-x : goal.invariant-loop-x
invariant-loop-x l = l.total ≡ upto (at l.xs) l.x-index

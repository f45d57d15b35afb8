use Rattle.folds.proofs.Finite.{Tested}
use Rattle.folds.proofs.all_finite64.Given as goal

abbrev pub invariant-loop-x : goal.invariant-loop-x
invariant-loop-x l = Tested l.xs l.x-index l.fine

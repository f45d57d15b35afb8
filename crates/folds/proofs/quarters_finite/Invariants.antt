use Rattle.folds.proofs.Quarters.{Passed}
use Rattle.folds.proofs.quarters_finite.Given as goal

abbrev pub invariant-loop-i : goal.invariant-loop-i
invariant-loop-i l = Passed l.xs l.q l.i l.fine

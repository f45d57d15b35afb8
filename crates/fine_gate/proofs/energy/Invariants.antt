use Rattle.std.proofs.Common.{◌≡◌, ℕ}
use Rattle.folds.specs.Sums.{upto, at, square}
use Rattle.fine_gate.proofs.energy.Given as goal

abbrev pub invariant-loop-sample : goal.invariant-loop-sample
invariant-loop-sample l = l.sum ≡ upto (λ (j : ℕ). square (at l.xs j)) l.sample-index

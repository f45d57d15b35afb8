use Rattle.std.proofs.Common.{◌≡◌}
use Rattle.folds.specs.Sums.{upto, square}
use Rattle.scan.specs.Scoring.{mean_of, centred}
use Rattle.scan_lags.proofs.near_energy.Given as goal

abbrev pub invariant-loop-level : goal.invariant-loop-level
invariant-loop-level l = (l.m ≡ mean_of l.levels) × (l.energy ≡ upto (λ j. square (centred l.levels j)) l.level-index)

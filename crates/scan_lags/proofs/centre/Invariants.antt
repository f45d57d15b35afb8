use Rattle.std.proofs.Common.{◌≡◌, length, take}
use Rattle.folds.specs.Sums.{table}
use Rattle.scan.specs.Scoring.{mean_of, centred}
use Rattle.scan_lags.proofs.centre.Given as goal

abbrev pub invariant-loop-i : goal.invariant-loop-i
invariant-loop-i l = (length l.out ≡ length l.initial.out) × (l.m ≡ mean_of l.levels) × (take l.i l.out ≡ table (centred l.levels) l.i)

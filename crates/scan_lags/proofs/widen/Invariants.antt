use Rattle.std.proofs.Common.{◌≡◌, length, take}
use Rattle.folds.specs.Sums.{table, at}
use Rattle.scan_lags.proofs.widen.Given as goal

abbrev pub invariant-loop-i : goal.invariant-loop-i
invariant-loop-i l = (length l.out ≡ length l.initial.out) × (take l.i l.out ≡ table (at l.xs) l.i)

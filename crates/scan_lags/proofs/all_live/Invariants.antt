use Rattle.std.proofs.Common.{◌≡◌, ℕ, ◌+◌, ◌<◌, false}
use lib.Ieee.{le}
use Rattle.folds.specs.Sums.{at}
use Rattle.scan.specs.Scoring.{energy_floor}
use Rattle.scan_lags.proofs.all_live.Given as goal

abbrev pub invariant-loop-j : goal.invariant-loop-j
invariant-loop-j l = (m : ℕ) → m < l.j → le (at l.energies (l.k + m)) energy_floor ≡ false

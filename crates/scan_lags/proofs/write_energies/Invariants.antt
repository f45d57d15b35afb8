use Rattle.std.proofs.Common.{◌≡◌, length, take}
use Rattle.folds.specs.Sums.{table}
use Rattle.scan_lags.specs.Lags.{energy_from}
use Rattle.scan_lags.proofs.write_energies.Given as goal

abbrev pub invariant-loop-k : goal.invariant-loop-k
invariant-loop-k l = (length l.energies ≡ length l.initial.energies) × (take l.k l.energies ≡ table (energy_from l.sums l.squares l.frame) l.k)

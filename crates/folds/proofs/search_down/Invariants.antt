use Rattle.std.proofs.Common.{◌≡◌}
use Rattle.std.specs.Slice.Iter.{iter_rest}
use Rattle.folds.specs.Search.{peak}
use Rattle.folds.proofs.Peaks.{Searched}
use Rattle.folds.proofs.search_down.Given as goal

abbrev pub invariant-loop-k : goal.invariant-loop-k
invariant-loop-k l = (l.k-iterator.iter.count ≡ 0) × Searched l.xs (iter_rest l.k-iterator.iter.iter) (peak l.place l.value)

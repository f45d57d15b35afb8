use Rattle.std.proofs.Common.{◌≡◌, ◌-◌, ◌≤◌, length}
use Rattle.folds.specs.Rewriting.{Rewritten}
use Rattle.scan_lags.specs.Lags.{score_from, above_in}
use Rattle.scan_lags.proofs.score_lags_with.Given as goal

abbrev pub invariant-loop-k : goal.invariant-loop-k
invariant-loop-k l = (l.k ≤ length l.initial.scores) × Rewritten (score_from l.near l.window l.frame l.power) l.initial.scores l.k l.scores × (l.live ≡ above_in l.initial.scores l.k)

abbrev pub decreases-loop-k : goal.decreases-loop-k
decreases-loop-k l = length l.initial.scores - l.k

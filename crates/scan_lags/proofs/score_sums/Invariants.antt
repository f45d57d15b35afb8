use Rattle.std.proofs.Common.{◌≡◌, ℕ, ◌+◌, ◌<◌, List, length}
use lib.Ieee.{Float}
use Rattle.folds.specs.Sums.{at}
use Rattle.folds.specs.Rewriting.{Rewritten}
use Rattle.scan_lags.specs.Lags.{score_by}
use Rattle.scan_lags.proofs.score_sums.Given as goal

-- f gives the scores of the block
abbrev Gives : List Float → Float → ℕ → (ℕ → Float → Float) → List Float → Type 0
Gives sums power k f old = (j : ℕ) → j < 16 → score_by (at sums j) power (at old (k + j)) ≡ f (k + j) (at old (k + j))

abbrev pub invariant-loop-j : goal.invariant-loop-j
invariant-loop-j l =
    (length l.scores ≡ length l.initial.scores) ×
    ((f : ℕ → Float → Float) (old : List Float) → Gives l.sums l.power l.k f old → Rewritten f old l.k l.initial.scores → Rewritten f old (l.k + l.j) l.scores)

use Prim.Native.Nat.{ℕ}
use lib.Ieee.{Float, binary64, add}
use mathlib.Core.List.{List}
use Rattle.folds.specs.Sums.{at}
use Rattle.folds.specs.Rewriting.{Rewritten}
use Rattle.scan_score.proofs.add_scores.Given as goal

-- a lag's sum with its score
abbrev pub added : List Float → ℕ → Float → Float
added scores k x = add binary64 x (at scores k)

abbrev pub invariant-loop-k : goal.invariant-loop-k
invariant-loop-k l = Rewritten (added l.scores) l.initial.sums l.k l.sums

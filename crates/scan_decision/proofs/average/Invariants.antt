use Prim.Native.Nat.{ℕ}
use lib.Ieee.{Float, binary64, mul}
use Rattle.folds.specs.Rewriting.{Rewritten}
use Rattle.scan.specs.Scoring.{one_fourth}
use Rattle.scan_decision.proofs.average.Given as goal

-- a sum as an average, whatever its lag
abbrev pub averaged : ℕ → Float → Float
averaged k x = mul binary64 x one_fourth

abbrev pub invariant-loop-sum : goal.invariant-loop-sum
invariant-loop-sum l = Rewritten averaged l.initial.sums l.sum-index l.sums

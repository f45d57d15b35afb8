use Rattle.std.proofs.Common.{ℕ, ◌+◌, List}
use lib.Ieee.{Float, binary64, add, mul}
use Rattle.folds.specs.Sums.{at}
use Rattle.folds.specs.Rewriting.{Rewritten}
use Rattle.scan_lags.proofs.add_products.Given as goal

-- a lag's sum with its product
abbrev pub added : Float → List Float → ℕ → ℕ → Float → Float
added x window from j s = add binary64 s (mul binary64 x (at window (from + j)))

abbrev pub invariant-loop-j : goal.invariant-loop-j
invariant-loop-j l = Rewritten (added l.x l.window l.from) l.initial.sums l.j l.sums

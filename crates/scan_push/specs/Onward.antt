-- A sum that goes on, for the loop that runs four of them side by side.
use Rattle.std.specs.Prelude.{ℕ, zero, suc, ◌+◌, List, Float}
use Rattle.folds.specs.Sums.{at}
use Rattle.scan.specs.Blocks.{summed}

-- the sum s, and then the absolute values of n samples from m on, in order
unfoldable pub onward : Float → List Float → ℕ → ℕ → Float
onward s xs m zero = s
onward s xs m (suc n) = summed (onward s xs m n) (at xs (m + n))

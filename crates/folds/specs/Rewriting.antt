-- Says what a loop that rewrites a lent slice in place, from index 0 up, has done when it has reached n.
use Rattle.std.specs.Prelude.{◌≡◌, ℕ, ◌≤◌, List, length, take, Float}
use Rattle.folds.specs.Sums.{table, at}

-- f j x is the new value for the value x at j. `old` is the list before, xs the list now.
pub record Rewritten (f : ℕ → Float → Float) (old : List Float) (n : ℕ) (xs : List Float) : Type 0 where
  pub size : length xs ≡ length old
  pub done : take n xs ≡ table (λ j. f j (at old j)) n
  pub left : (j : ℕ) → n ≤ j → at xs j ≡ at old j

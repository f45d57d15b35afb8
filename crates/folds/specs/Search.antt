-- The two searches for the largest value above 0, each with strict >: the coarse one from the last index down, the fine one from the first up.
-- Among equal values the one met first wins: the last index in the coarse search, the first in the fine one. If nothing is above 0, the answer is index 0, value +0.
use Rattle.std.specs.Prelude.{ℕ, zero, suc, List, [], ◌∷◌, Float}
use Rattle.std.specs.Float.Ieee.{lt}
use Rattle.answers.specs.Pick.{pick}
use Rattle.floats.specs.Functions.{zero64}
use Rattle.folds.specs.declared.Peak.{Peak}

abbrev pub peak : ℕ → Float → Peak
peak k x = record { place = k; value = x }

-- Compares the peak found so far with the next value, at k.
abbrev pub meet : Peak → ℕ → Float → Peak
meet p k x = pick (lt p.value x) (peak k x) p

-- Searches from the last index down. xs begins at index k.
unfoldable pub down_from : List Float → ℕ → Peak
down_from [] k = peak 0 zero64
down_from (x ∷ xs) k = meet (down_from xs (suc k)) k x

unfoldable pub search_down : List Float → Peak
search_down xs = down_from xs 0

-- Searches the values t 0, .., t (n - 1), from index 0 up.
unfoldable pub search_up : (ℕ → Float) → ℕ → Peak
search_up t zero = peak 0 zero64
search_up t (suc n) = meet (search_up t n) n (t n)

-- Says what the coarse search finds, in a reader's words: its position is the largest k whose value equals the greatest above 0, and nothing exceeds it. If
-- nothing is above 0, it answers 0 at 0. The values may be any floats: a NaN exceeds nothing and equals nothing.
use Rattle.std.specs.Prelude.{◌≡◌, ℕ, ◌<◌, true, false, ◌⊎◌, List, length, Float}
use Rattle.std.specs.Float.Ieee.{lt, eq}
use Rattle.floats.specs.Functions.{zero64}
use Rattle.folds.specs.Sums.{at}
use Rattle.folds.specs.Search.{peak, search_down}
use Rattle.folds.specs.declared.Peak.{Peak}

pub record NoneAbove (xs : List Float) (p : Peak) : Type 0 where
  pub zero : p ≡ peak 0 zero64
  pub unexceeded : (i : ℕ) → i < length xs → lt zero64 (at xs i) ≡ false

pub record Greatest (xs : List Float) (p : Peak) : Type 0 where
  pub inside : p.place < length xs
  pub value : p.value ≡ at xs p.place
  pub above : lt zero64 p.value ≡ true
  pub unexceeded : (i : ℕ) → i < length xs → lt p.value (at xs i) ≡ false
  pub last : (i : ℕ) → p.place < i → i < length xs → eq (at xs i) p.value ≡ false

abbrev pub FindsGreatest : List Float → Type 0
FindsGreatest xs = NoneAbove xs (search_down xs) ⊎ Greatest xs (search_down xs)

-- Step 7 in a reader's words: the rival of a peak at lag k is the greatest average above 0 among the lags farther than the peak guard from k, and 0 where none of them is
-- above 0. Any floats: a NaN exceeds nothing.
use Rattle.std.specs.Prelude.{ℕ, ◌<◌, ◌≡◌, ◌⊎◌, List, true, false, Float}
use Rattle.std.specs.Float.Ieee.{lt}
use Rattle.answers.specs.Numbers.{apart}
use Rattle.floats.specs.Functions.{zero64}
use Rattle.folds.specs.Sums.{at}
use Rattle.scan.specs.Bins.{lags}
use Rattle.scan.specs.Scoring.{rival_of}
use Rattle.scan.specs.declared.Geometry.{Geometry}

-- lag i is farther than the peak guard from k
abbrev pub Outside : Geometry → ℕ → ℕ → Type 0
Outside g k i = g.peak_guard < apart i k

pub record NoRival (g : Geometry) (averages : List Float) (k : ℕ) (r : Float) : Type 0 where
  pub zero : r ≡ zero64
  pub unexceeded : (i : ℕ) → i < lags g → Outside g k i → lt zero64 (at averages i) ≡ false

pub record GreatestRival (g : Geometry) (averages : List Float) (k : ℕ) (r : Float) : Type 0 where
  pub lag : ℕ
  pub inside : lag < lags g
  pub outside : Outside g k lag
  pub value : r ≡ at averages lag
  pub above : lt zero64 r ≡ true
  pub unexceeded : (i : ℕ) → i < lags g → Outside g k i → lt r (at averages i) ≡ false

abbrev pub FindsRival : Type 0
FindsRival = (g : Geometry) (averages : List Float) (k : ℕ) → NoRival g averages k (rival_of g averages k) ⊎ GreatestRival g averages k (rival_of g averages k)

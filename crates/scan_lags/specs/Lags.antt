-- What the parts of the code say to each other. The near values less their mean and the window stand at the start of lists that may be longer.
use Rattle.std.specs.Prelude.{◌≡◌, ℕ, zero, suc, ◌+◌, ◌^◌, ◌<◌, ◌≤◌, not, List, length, Float}
use Rattle.std.specs.Float.{binary64}
use Rattle.std.specs.Float.Ieee.{sub, mul, div, le}
use Rattle.answers.specs.Pick.{pick}
use Rattle.floats.specs.Functions.{zero64, whole, root}
use Rattle.folds.specs.Sums.{upto, at, square}
use Rattle.folds.specs.Rewriting.{Rewritten}
use Rattle.scan.specs.Scoring.{across, energy_floor}

-- the first n values of xs are f's
abbrev pub Starts : (ℕ → Float) → ℕ → List Float → Type 0
Starts f n xs = (i : ℕ) → i < n → at xs i ≡ f i

-- lag k's energy, from the prefix sums
unfoldable pub energy_from : List Float → List Float → ℕ → ℕ → Float
energy_from sums squares frame k = sub binary64 (across squares frame k) (div binary64 (square (across sums frame k)) (whole frame))

-- lag k's product at i, and the sum of its first n products
abbrev pub product_at : List Float → List Float → ℕ → ℕ → Float
product_at near window k i = mul binary64 (at near i) (at window (k + i))

abbrev pub products_of : List Float → List Float → ℕ → ℕ → Float
products_of near window n k = upto (product_at near window k) n

-- the score of a lag with such a sum and energy. `power` is the near energy of the frame.
abbrev pub score_by : Float → Float → Float → Float
score_by product power energy = div binary64 product (root binary64 (mul binary64 power energy))

-- the score of lag k with such an energy: 0 where the energy is at or below the floor
unfoldable pub score_from : List Float → List Float → ℕ → Float → ℕ → Float → Float
score_from near window frame power k energy = pick (le energy energy_floor) zero64 (score_by (products_of near window frame k) power energy)

-- 1 for an energy above the floor, whose lag's products are formed, else 0; and over the first n lags
abbrev pub above : Float → ℕ
above energy = pick (not (le energy energy_floor)) 1 0

unfoldable pub above_in : List Float → ℕ → ℕ
above_in energies zero = 0
above_in energies (suc n) = above_in energies n + above (at energies n)

-- lags k to k + n - 1 lie inside the lists
pub record Inside (near window : List Float) (frame k n : ℕ) : Type 0 where
  pub frames : frame ≤ length near
  pub reach : k + n + frame ≤ length window + 1

-- a list rewritten up to k is then rewritten up to r, which is further on; `live` of the energies between were above the floor
pub record Advanced (f : ℕ → Float → Float) (k r live : ℕ) (before after : List Float) : Type 0 where
  pub further : k < r
  pub inside : r ≤ length before
  pub size : length after ≡ length before
  pub rewrites : (old : List Float) → Rewritten f old k before → Rewritten f old r after
  pub counts : (old : List Float) → Rewritten f old k before → above_in old r ≡ above_in old k + live

-- the lists have the lengths that the frame and the window give them
pub record RoomFits (levels window prefix squares scores : List Float) : Type 0 where
  pub frame : length levels ≤ 2 ^ 53
  pub sums : length prefix ≡ length window + 1
  pub energies : length squares ≡ length window + 1
  pub lags : length scores + length levels ≡ length window + 1

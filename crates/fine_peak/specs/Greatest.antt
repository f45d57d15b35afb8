-- Says what the search is for, without saying how it is done.
use Rattle.std.specs.Prelude.{◌≡◌, ℕ, ◌<◌, true, false, Float}
use Rattle.std.specs.Float.Ieee.{lt, eq}
use Rattle.folds.specs.Search.{peak}
use Rattle.folds.specs.declared.Peak.{Peak}
use Rattle.fine_peak.specs.declared.Crest.{Crest}

-- Among t 0, .., t (n - 1), the peak is the value at its position, nothing exceeds it, and every value before it is smaller.
pub record FirstGreatest (t : ℕ → Float) (n : ℕ) (p : Peak) : Type 0 where
  pub within : p.place < n
  pub stands : eq p.value (t p.place) ≡ true
  pub greatest : (k : ℕ) → k < n → lt p.value (t k) ≡ false
  pub first : (k : ℕ) → k < p.place → lt (t k) p.value ≡ true

-- The same, but every value after it is smaller.
pub record LastGreatest (t : ℕ → Float) (n : ℕ) (p : Peak) : Type 0 where
  pub within : p.place < n
  pub stands : eq p.value (t p.place) ≡ true
  pub greatest : (k : ℕ) → k < n → lt p.value (t k) ≡ false
  pub last : (k : ℕ) → p.place < k → k < n → lt (t k) p.value ≡ true

-- Two positions hold the value.
pub record HeldTwice (t : ℕ → Float) (n : ℕ) (value : Float) : Type 0 where
  pub one : ℕ
  pub other : ℕ
  pub apart : one < other
  pub within : other < n
  pub stands : eq value (t one) ≡ true
  pub again : eq value (t other) ≡ true

-- ---- the first and the last position of a crest

abbrev pub first_of : Crest → Peak
first_of c = peak c.places.first c.value

abbrev pub last_of : Crest → Peak
last_of c = peak c.places.last c.value

abbrev pub Tied : Crest → Type 0
Tied c = c.places.first ≡ c.places.last → ⊥

-- First and last differ exactly if two positions hold the greatest value.
pub record TellsTies (t : ℕ → Float) (n : ℕ) (c : Crest) : Type 0 where
  pub told : Tied c → HeldTwice t n c.value
  pub tells : HeldTwice t n c.value → Tied c

-- SPECIFICATION 9, from "The peak rule" on: the rule over entries 0 to span of the host's correlation.
use Rattle.std.specs.Prelude.{ℕ, zero, suc, ◌+◌, ◌-◌, Bool, List, length, take, from_bits, nat_le, Float, Some}
use Rattle.std.specs.Float.{binary64}
use Rattle.std.specs.Float.Ieee.{mul, div, lt, le, eq}
use Rattle.answers.specs.Pick.{pick, either}
use Rattle.answers.specs.Refusals.{require, before, if_refused, none, not_finite}
use Rattle.answers.specs.Numbers.{next_long_count}
use Rattle.units.specs.Units.{samples}
use Rattle.units.specs.declared.Samples.{Samples}
use Rattle.floats.specs.Functions.{zero64, whole, magnitude}
use Rattle.folds.specs.Sums as Sums
use Rattle.folds.specs.Sums.{upto, all_finite}
use Rattle.fine.specs.State.{positions, span_of, first_refusals}
use Rattle.fine.specs.declared.Positions.{Positions}
use Rattle.fine_peak.specs.declared.Lock.{Lock}
use Rattle.fine.specs.declared.Fine.{Fine}
use Rattle.fine_peak.specs.declared.PeakAnswer.TheVariants as answer
use Rattle.fine_peak.specs.declared.Searched.{Searched}
use Rattle.fine_peak.specs.declared.Crest.{Crest}
use Rattle.fine_peak.specs.declared.Heights.{Heights}

-- ---- the heights of n entries are their absolute values in f64

abbrev pub height : List Float → ℕ → Float
height correlation k = magnitude (Sums.at correlation k)

abbrev pub crest : Positions → Float → Crest
crest places x = record { places = places; value = x }

-- Compares the crest found so far with the next height, at k. A height that is strictly greater takes the crest's place; an equal one is the crest's new last position.
abbrev pub tie : Crest → ℕ → Float → Crest
tie c k x =
    pick (lt c.value x) (crest (positions k k) x)
    (pick (eq c.value x) (crest (positions c.places.first k) c.value)
    c)

-- Finds the crest of t 0, .., t (n - 1), from k = 0 on.
unfoldable pub crest_of : (ℕ → Float) → ℕ → Crest
crest_of t zero = crest (positions 0 0) zero64
crest_of t (suc n) = tie (crest_of t n) n (t n)

-- Adds the total in the same order.
unfoldable pub heights_of : List Float → ℕ → Heights
heights_of correlation n = record { crest = crest_of (height correlation) n; total = upto (height correlation) n }

-- ---- the rule

-- The mean is total / (span + 1).
abbrev pub mean_of : ℕ → Heights → Float
mean_of span h = div binary64 h.total (whole (span + 1))

-- The ratio is peak / mean, or 0 if the mean is 0.
unfoldable pub ratio_of : Crest → Float → Float
ratio_of c mean = pick (lt zero64 mean) (div binary64 c.value mean) zero64

-- 10 (CONFIDENCE_THRESHOLD). It is high on purpose: missing a lock costs a host nothing that it had, but locking onto noise breaks a canceller that would work.
abbrev pub threshold : Float
threshold = from_bits binary64 0x4024000000000000

-- There is no candidate if mean <= 0 or peak < 10 x mean.
unfoldable pub weak : Crest → Float → Bool
weak c mean = either (le mean zero64) (lt c.value (mul binary64 threshold mean))

-- How far the delay is backed off from the peak (LOCK_MARGIN_SAMPLES): an echo path rises into its peak over some samples.
abbrev pub lock_margin : ℕ
lock_margin = 16

-- The delay is origin + span - k - 16, never below 0.
abbrev pub delay_of : Samples → ℕ → ℕ → Samples
delay_of origin span k = samples (origin.0 + span - k - lock_margin)

-- The lock uses the first position.
abbrev pub lock_of : Fine → Positions → Float → Lock
lock_of s places ratio = record { delay = delay_of s.origin (span_of s) places.first; peak_at = places; ratio = ratio }

-- Each accepted call records ratio, positions and origin, and adds one to scans.
abbrev pub recorded : Fine → Positions → Float → Fine
recorded s places ratio =
    record {
      lengths = s.lengths;
      origin = s.origin;
      frames = s.frames;
      scans = record { count = next_long_count s.scans.count; ratio = ratio; peak_at = Some places; origin = s.origin };
    }

-- The answer carries the positions, whether or not there is a candidate.
unfoldable pub ruled : Fine → Crest → Float → Searched
ruled s c mean =
    let ratio = ratio_of c mean in
    record { fine = recorded s c.places ratio; answer = pick (weak c mean) (answer.NoCandidate c.places) (answer.Candidate (lock_of s c.places ratio)) }

-- ---- the call. The correlation is lent, an array of span + 1 entries or more, of which 0 to span are read.

unfoldable pub peak_refusal : Fine → List Float → ℕ
peak_refusal s correlation =
    before (first_refusals s (nat_le (span_of s + 1) (length correlation)))
    (require (all_finite (take (span_of s + 1) correlation)) not_finite
    none)

unfoldable pub searched : Fine → List Float → Searched
searched s correlation =
    let n = peak_refusal s correlation in
    let h = heights_of correlation (span_of s + 1) in
    if_refused n
    (record { fine = s; answer = answer.Refused n })
    (ruled s h.crest (mean_of (span_of s) h))

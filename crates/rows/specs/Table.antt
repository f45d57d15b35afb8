-- SPECIFICATION 15: every P row, one table under one claim, by computation of the definitions.
use Rattle.std.specs.Prelude.{ℕ, zero, suc, ◌+◌, ◌≡◌, Bool, true, false, List, [], ◌∷◌, ◌++◌, eqb, Float, None}
use Rattle.std.specs.Float.{binary64}
use Rattle.std.specs.Float.Ieee.{of_bits}
use Rattle.answers.specs.Pick.{pick, either}
use Rattle.units.specs.Units.{bins, samples}
use Rattle.floats.specs.Functions.{zero64, narrow_bits, root_bits}
use Rattle.scan.specs.Bins.{geometry_of}
use Rattle.scan.specs.Scoring.{most_products, at_ceiling}
use Rattle.tracker.specs.declared.Outcome.{Outcome}
use Rattle.tracker.specs.declared.Outcome.TheVariants.{Candidate, Unconfident}
use Rattle.tracker.specs.declared.Tracker.{Tracker}
use Rattle.tracker.specs.Tracker.{fresh, evidence}
use Rattle.tracker.specs.Cycle as tracker
use Rattle.tracker.specs.Cycle.{outside_bands, cycled}
use Rattle.tracker.specs.Told.{hold, move_to, verdict_told}
use Rattle.fine.specs.State.{positions}
use Rattle.fine.specs.Calls.{made, relocated}
use Rattle.fine_peak.specs.Peak.{searched}
use Rattle.fine_peak.specs.declared.PeakAnswer.{PeakAnswer}
use Rattle.fine_peak.specs.declared.PeakAnswer.TheVariants as peakAnswer

-- ---- what a row says

pub data Row : Type 0 where
  -- rate and ceiling give these: decimation, bin rate, span, frame, ceiling guard and peak guard
  gives : (rate ceiling decimation binRate span frame ceiling_guard peak_guard : ℕ) → Row
  -- at a rate and a ceiling, the most products that a frame's lag sums take
  most : (rate ceiling products : ℕ) → Row
  -- at a rate and a ceiling, whether a delay of so many bins stands at the ceiling
  stands : (rate ceiling delay : ℕ) (at : Bool) → Row
  -- at a rate and an alignment, whether a candidate is outside the bands
  band : (rate alignment candidate : ℕ) (outside : Bool) → Row
  -- from a tracker on, the verdicts of cycles one after another, at one alignment
  cycles : (start : Tracker) (alignment : ℕ) (outcomes : List Outcome) (says : List (List ℕ)) → Row
  -- a fine state made for a span and moved to an origin, and where 1.0 stands in the correlation: the answer
  peak : (span origin : ℕ) (ones : List ℕ) (answer : PeakAnswer) → Row
  -- patterns: the root of the first is the second
  root_row : (x r : ℕ) → Row
  -- patterns: the first narrows to the second
  narrows : (x r : ℕ) → Row

-- ---- words for the table

abbrev pub interior : ℕ → Outcome
interior delay = Candidate (samples delay) true

-- a tracker with a pending delay
abbrev pub waiting : ℕ → ℕ → Tracker
waiting rate pending = evidence (fresh rate) (tracker.delay_at pending) None 0 0 0 false

abbrev pub verdicts : Tracker → ℕ → List Outcome → List (List ℕ)
verdicts t alignment [] = []
verdicts t alignment (o ∷ os) =
    verdict_told (cycled t (samples alignment) o).verdict ∷ verdicts (cycled t (samples alignment) o).tracker alignment os

abbrev pub one : Float
one = of_bits binary64 0x3ff0000000000000

unfoldable pub among : ℕ → List ℕ → Bool
among k [] = false
among k (j ∷ js) = either (eqb k j) (among k js)

-- n entries: 1.0 at the positions named, else 0
unfoldable pub entries : List ℕ → ℕ → List Float
entries ones zero = []
entries ones (suc n) = entries ones n ++ (pick (among n ones) one zero64 ∷ [])

-- a candidate: its delay, where the peak stands first and last, the ratio
abbrev pub lock : ℕ → ℕ → ℕ → ℕ → PeakAnswer
lock delay first last ratio = peakAnswer.Candidate (record { delay = samples delay; peak_at = positions first last; ratio = of_bits binary64 ratio })

abbrev pub no_lock : ℕ → ℕ → PeakAnswer
no_lock first last = peakAnswer.NoCandidate (positions first last)

-- ---- the claim

abbrev pub Holds : Row → Type 0
Holds (gives rate ceiling decimation binRate span frame ceiling_guard peak_guard) =
    geometry_of rate ceiling
    ≡ record { rate = rate; ceiling = ceiling; decimation = decimation; bin_rate = binRate; span = span; frame = frame; ceiling_guard = ceiling_guard; peak_guard = peak_guard }
Holds (most rate ceiling products) = most_products (geometry_of rate ceiling) ≡ products
Holds (stands rate ceiling delay at) = at_ceiling (geometry_of rate ceiling) (bins delay) ≡ at
Holds (band rate alignment candidate outside) = outside_bands (fresh rate) alignment candidate ≡ outside
Holds (cycles start alignment outcomes says) = verdicts start alignment outcomes ≡ says
Holds (peak span origin ones answer) = (searched (relocated (made span).fine (samples origin)).fine (entries ones (span + 1))).answer ≡ answer
Holds (root_row x r) = root_bits x ≡ r
Holds (narrows x r) = narrow_bits x ≡ r

abbrev pub All : List Row → Type 0
All [] = Unit {0}
All (r ∷ rs) = Holds r × All rs

-- ---- the table

abbrev pub rows : List Row
rows =
    -- P1
    gives 48000 500 48 1000 500 256 8 30
    -- P2
    ∷ gives 8500 500 9 944 472 241 7 28
    -- request h: 501 lags of 256 products
    ∷ most 48000 500 128256
    -- P4: span 500: 492 bins passes the ceiling test, 493 does not
    ∷ stands 48000 500 492 false
    ∷ stands 48000 500 493 true
    -- P5: drift -192 and +2,304 are inside, -193 and +2,305 outside
    ∷ band 48000 4800 4608 false
    ∷ band 48000 4800 7104 false
    ∷ band 48000 4800 4607 true
    ∷ band 48000 4800 7105 true
    -- P6: pending 100, alignment 1,000, candidate 100: move 0
    ∷ cycles (waiting 48000 100) 1000 (interior 100 ∷ []) (move_to 0 ∷ [])
    -- P8: span 9, origin 100, 1.0 at k = 3: delay 90, ratio 10, no tie
    ∷ peak 9 100 (3 ∷ []) (lock 90 3 3 0x4024000000000000)
    -- P9: span 8, the same: none, and no tie
    ∷ peak 8 100 (3 ∷ []) (no_lock 3 3)
    -- P10: span 39, origin 100, 1.0 at k = 5 and 9: k = 5, delay 118, ratio 20; a tie, 9 the last
    ∷ peak 39 100 (5 ∷ 9 ∷ []) (lock 118 5 9 0x4034000000000000)
    -- request e: with all zeros first 0, last span
    ∷ peak 9 100 [] (no_lock 0 9)
    -- P11: the root of 2
    ∷ root_row 0x4000000000000000 0x3ff6a09e667f3bcd
    -- P12: 1 + 2^-24 narrows to 1, 1 + 3 x 2^-24 to 1 + 2^-22
    ∷ narrows 0x3ff0000010000000 0x3f800000
    ∷ narrows 0x3ff0000030000000 0x3f800002
    -- the verdicts of the whole log of "Replay"
    ∷ cycles (fresh 48000) 4800 (interior 4700 ∷ interior 4500 ∷ interior 4480 ∷ Unconfident ∷ []) (hold ∷ hold ∷ move_to 4096 ∷ hold ∷ [])
    ∷ []

-- Defines the calls that are lent no buffer: making, restart, relocate and reset, which clear what delay.rs says, and the reports.
use Rattle.std.specs.Prelude.{ℕ, ◌+◌, true, ltb}
use Rattle.answers.specs.Refusals.{require, before, if_refused, none, outside_table, too_large}
use Rattle.answers.specs.Numbers.{limit, allowed_span}
use Rattle.answers.specs.Answers.{counted}
use Rattle.answers.specs.declared.Change.TheVariants as change
use Rattle.answers.specs.declared.Count.{Count}
use Rattle.units.specs.Units.{samples}
use Rattle.units.specs.declared.Samples.{Samples}
use Rattle.fine.specs.State.{lengths_of, new_with, span_of, first_refusals}
use Rattle.fine.specs.declared.Frames.{Frames}
use Rattle.fine.specs.declared.Fine.{Fine}
use Rattle.fine.specs.declared.Range.{Range}
use Rattle.fine.specs.declared.Changed.{Changed}
use Rattle.fine.specs.declared.SamplesReport.{SamplesReport}
use Rattle.fine.specs.declared.SamplesReport.TheVariants as samplesReport
use Rattle.fine.specs.declared.RangeReport.{RangeReport}
use Rattle.fine.specs.declared.RangeReport.TheVariants as rangeReport
use Rattle.fine.specs.declared.RatioReport.{RatioReport}
use Rattle.fine.specs.declared.RatioReport.TheVariants as ratioReport
use Rattle.fine.specs.declared.PositionReport.{PositionReport}
use Rattle.fine.specs.declared.PositionReport.TheVariants as positionReport

-- A call changes the state `given` to `next`, or is refused and returns the one given.
unfoldable pub changed : ℕ → Fine → Fine → Changed
changed refusal given next =
    if_refused refusal
    (record { fine = given; answer = change.Refused refusal })
    (record { fine = next; answer = change.Done })

-- ---- making a state. A refused making returns the state for span 1.

unfoldable pub making_refusal : ℕ → ℕ
making_refusal span = require (allowed_span span) outside_table none

unfoldable pub made : ℕ → Changed
made span = changed (making_refusal span) (new_with (lengths_of 1)) (new_with (lengths_of span))

-- ---- restart, relocate and reset

-- No buffer is lent, so only 1 and 3 can be refused.
unfoldable pub state_refusal : Fine → ℕ
state_refusal s = first_refusals s true

-- Empties the near frame and sets the count of frames taken to 0. A retained frame stays, and so does the count of frames skipped.
abbrev pub restarted_frames : Frames → Frames
restarted_frames f = record { len = 0; retained = f.retained; taken = 0; skipped = f.skipped }

-- Does the same, and searches from this origin on.
abbrev pub restarted_at : Fine → Samples → Fine
restarted_at s origin = record { lengths = s.lengths; origin = origin; frames = restarted_frames s.frames; scans = s.scans }

unfoldable pub restarted : Fine → Changed
restarted s = changed (state_refusal s) s (restarted_at s s.origin)

unfoldable pub relocate_refusal : Fine → Samples → ℕ
relocate_refusal s origin =
    before (state_refusal s)
    (require (ltb origin.0 limit) too_large
    none)

unfoldable pub relocated : Fine → Samples → Changed
relocated s origin = changed (relocate_refusal s origin) s (restarted_at s origin)

-- Returns the state as it was made.
unfoldable pub was_reset : Fine → Changed
was_reset s = changed (state_refusal s) s (new_with s.lengths)

-- ---- reports

unfoldable pub samples_reported : ℕ → Samples → SamplesReport
samples_reported refusal n = if_refused refusal (samplesReport.Refused refusal) (samplesReport.Is n)

unfoldable pub frame_len : Fine → SamplesReport
frame_len s = samples_reported (state_refusal s) (samples s.lengths.frame)

unfoldable pub window_len : Fine → SamplesReport
window_len s = samples_reported (state_refusal s) (samples (s.lengths.frame + span_of s))

unfoldable pub max_delay : Fine → SamplesReport
max_delay s = samples_reported (state_refusal s) (samples (span_of s))

-- Tells how far the far window's start lies before the near frame's start. (The Rust's comment says end, but its acquirer counts from the start.)
unfoldable pub window_back_off : Fine → SamplesReport
window_back_off s = samples_reported (state_refusal s) (samples (s.origin.0 + span_of s))

-- Tells the origin of the last scan.
unfoldable pub last_scan_origin : Fine → SamplesReport
last_scan_origin s = samples_reported (state_refusal s) s.scans.origin

-- Gives the first and the last delay searched.
abbrev pub range_of : Fine → Range
range_of s = record { first = s.origin; last = samples (s.origin.0 + span_of s) }

unfoldable pub search_range : Fine → RangeReport
search_range s = if_refused (state_refusal s) (rangeReport.Refused (state_refusal s)) (rangeReport.Is (range_of s))

-- Counts the frames taken at the current origin.
unfoldable pub frames_of : Fine → Count
frames_of s = counted (state_refusal s) s.frames.taken

unfoldable pub skipped_of : Fine → Count
skipped_of s = counted (state_refusal s) s.frames.skipped

unfoldable pub scans_of : Fine → Count
scans_of s = counted (state_refusal s) s.scans.count

unfoldable pub last_scan_ratio : Fine → RatioReport
last_scan_ratio s = if_refused (state_refusal s) (ratioReport.Refused (state_refusal s)) (ratioReport.Is s.scans.ratio)

unfoldable pub last_scan_peak_at : Fine → PositionReport
last_scan_peak_at s = if_refused (state_refusal s) (positionReport.Refused (state_refusal s)) (positionReport.Is s.scans.peak_at)

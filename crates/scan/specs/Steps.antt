-- Any public call on a scan with its buffers: what it answers, and the state and buffers after it. Each case is the definition that the code's contract cites.
use Rattle.std.specs.Prelude.{ℕ, List, Float}
use Rattle.answers.specs.Refusals.{none}
use Rattle.answers.specs.declared.Change.{Change}
use Rattle.answers.specs.declared.Change.TheVariants as change
use Rattle.answers.specs.declared.Count.{Count}
use Rattle.answers.specs.declared.Count.TheVariants as count
use Rattle.answers.specs.declared.Flag.{Flag}
use Rattle.answers.specs.declared.Flag.TheVariants as flag
use Rattle.scan.specs.State.{Buffers, World}
use Rattle.scan.specs.Calls.{made, was_reset, pushed_far, pushed_near, observed, rearmed, discarded, bin_samples, ceiling_samples, region_of, beyond_ceiling, is_finished, is_exhausted, frames_of, correlation_of}
use Rattle.scan.specs.declared.Scan.{Scan}
use Rattle.scan.specs.declared.Taking.{Taking}
use Rattle.scan.specs.declared.Taking.TheVariants as taking
use Rattle.scan.specs.declared.Scoring.{Scoring}
use Rattle.scan.specs.declared.Scoring.TheVariants as scoring
use Rattle.scan.specs.declared.RegionReport.{RegionReport}
use Rattle.scan.specs.declared.RegionReport.TheVariants as regionReport
use Rattle.scan.specs.declared.LevelReport.{LevelReport}
use Rattle.scan.specs.declared.LevelReport.TheVariants as level
use Rattle.scan.specs.declared.SamplesReport.{SamplesReport}
use Rattle.scan.specs.declared.SamplesReport.TheVariants as samples

-- ---- the calls. Far pushes stand apart, since they alone bring far samples.

pub data Report : Type 0 where
  bin_samples_report ceiling_samples_report region beyond_ceiling_report frames correlation finished exhausted : Report

pub data Deed : Type 0 where
  near : Float → ℕ → Deed
  score rearm discard reset : Deed
  ask : Report → Deed

pub data Call : Type 0 where
  far : List Float → Call
  deed : Deed → Call

-- ---- the answers

pub data Response : Type 0 where
  changes : Change → Response
  takes : Taking → Response
  scores : Scoring → Response
  reports_region : RegionReport → Response
  reports_flag : Flag → Response
  reports_count : Count → Response
  reports_level : LevelReport → Response
  reports_samples : SamplesReport → Response

-- the refusal number of an answer, and 0 of one that is no refusal
abbrev pub refusal_of : Response → ℕ
refusal_of (changes (change.Refused n)) = n
refusal_of (changes change.Done) = none
refusal_of (takes (taking.Refused n)) = n
refusal_of (takes taking.Ignored) = none
refusal_of (takes taking.Dropped) = none
refusal_of (takes taking.Taken) = none
refusal_of (takes taking.Full) = none
refusal_of (scores (scoring.Refused n)) = n
refusal_of (scores (scoring.Frame f n)) = none
refusal_of (reports_region (regionReport.Refused n)) = n
refusal_of (reports_region (regionReport.Is r)) = none
refusal_of (reports_flag (flag.Refused n)) = n
refusal_of (reports_flag (flag.Is b)) = none
refusal_of (reports_count (count.Refused n)) = n
refusal_of (reports_count (count.Is k)) = none
refusal_of (reports_level (level.Refused n)) = n
refusal_of (reports_level (level.Is x)) = none
refusal_of (reports_samples (samples.Refused n)) = n
refusal_of (reports_samples (samples.Is d)) = none

-- ---- a call

pub record Step : Type 0 where
  pub response : Response
  pub world : World

abbrev pub step : Response → Scan → Buffers → Step
step a s b = record { response = a; world = record { scan = s; buffers = b } }

abbrev pub with_envelope : Buffers → List Float → Buffers
with_envelope b e = record { envelope = e; levels = b.levels; window = b.window; prefix = b.prefix; squares = b.squares; scores = b.scores; lag_sums = b.lag_sums }

abbrev pub with_levels : Buffers → List Float → Buffers
with_levels b l = record { envelope = b.envelope; levels = l; window = b.window; prefix = b.prefix; squares = b.squares; scores = b.scores; lag_sums = b.lag_sums }

abbrev pub with_lag_sums : Buffers → List Float → Buffers
with_lag_sums b t = record { envelope = b.envelope; levels = b.levels; window = b.window; prefix = b.prefix; squares = b.squares; scores = b.scores; lag_sums = t }

-- a report changes nothing
abbrev pub reported : Scan → Report → Response
reported s bin_samples_report = reports_samples (bin_samples s)
reported s ceiling_samples_report = reports_samples (ceiling_samples s)
reported s region = reports_region (region_of s)
reported s beyond_ceiling_report = reports_flag (beyond_ceiling s)
reported s frames = reports_count (frames_of s)
reported s correlation = reports_level (correlation_of s)
reported s finished = reports_flag (is_finished s)
reported s exhausted = reports_flag (is_exhausted s)

unfoldable pub called : ℕ → World → Call → Step
called slack w (far xs) =
    let p = pushed_far slack w.scan w.buffers.envelope xs in
    step (changes p.changed.answer) p.changed.scan (with_envelope w.buffers p.envelope)
called slack w (deed (near x index)) =
    let p = pushed_near w.scan w.buffers.levels x index in
    step (takes p.took.answer) p.took.scan (with_levels w.buffers p.levels)
called slack w (deed score) =
    let p = observed slack w in
    step (scores p.scored.answer) p.scored.scan p.buffers
called slack w (deed rearm) =
    let p = rearmed w.scan w.buffers.lag_sums in
    step (changes p.changed.answer) p.changed.scan (with_lag_sums w.buffers p.lag_sums)
called slack w (deed discard) =
    let p = discarded w.scan w.buffers.lag_sums in
    step (changes p.changed.answer) p.changed.scan (with_lag_sums w.buffers p.lag_sums)
called slack w (deed reset) =
    let p = was_reset slack w.scan w.buffers.envelope w.buffers.lag_sums in
    step (changes p.changed.answer) p.changed.scan (with_lag_sums (with_envelope w.buffers p.envelope) p.lag_sums)
called slack w (deed (ask r)) = step (reported w.scan r) w.scan w.buffers

-- a making with these buffers lent
unfoldable pub making : ℕ → ℕ → ℕ → Buffers → Step
making slack rate ceiling b =
    let p = made slack rate ceiling b.envelope b.lag_sums in
    step (changes p.changed.answer) p.changed.scan (with_lag_sums (with_envelope b p.envelope) p.lag_sums)

-- Change request j: the narrow profile. Rates 8,000 and 16,000 only, ceiling from 8 to 320 ms, an envelope slack of 512 bins. Each call is the scan's own definition at that
-- slack, behind one test: refusal 1 also for what the profile does not allow, before all others.
use Rattle.std.specs.Prelude.{ℕ, ◌+◌, ◌*◌, List, Bool, eqb, Float}
use Rattle.answers.specs.Pick.{pick, both, either}
use Rattle.answers.specs.Refusals.{require, if_refused, none, outside_table, wrong_length}
use Rattle.answers.specs.Numbers.{within}
use Rattle.answers.specs.declared.Change.TheVariants as change
use Rattle.answers.specs.declared.Count.{Count}
use Rattle.answers.specs.declared.Count.TheVariants as count
use Rattle.answers.specs.declared.Flag.{Flag}
use Rattle.answers.specs.declared.Flag.TheVariants as flag
use Rattle.scan.specs.Bins.{geometry_of, envelope_len, near_len, window_len, prefix_len, lags}
use Rattle.scan.specs.State.{Buffers, World, new_scan}
use Rattle.scan.specs.Calls.{Restart, restart, zeroed, restart_lengths, changed_by, FarPush, NearPush, untaken, Observation, Clearing, was_reset, pushed_far, pushed_near, observed, rearmed, discarded, bin_samples, ceiling_samples, region_of, beyond_ceiling, is_finished, is_exhausted, frames_of, correlation_of}
use Rattle.scan.specs.Steps.{Report, bin_samples_report, ceiling_samples_report, region, beyond_ceiling_report, frames, correlation, finished, exhausted, near, score, rearm, discard, reset, ask, Call, far, deed, Response, changes, takes, scores, reports_region, reports_flag, reports_count, reports_level, reports_samples, Step, step, with_envelope, with_levels, with_lag_sums}
use Rattle.scan_words.specs.Layout.{scan_words}
use Rattle.scan_handover.specs.Handover.{NearRun, handed, unchanged}
use Rattle.scan_handover.specs.declared.RunTaking.TheVariants as run
use Rattle.scan.specs.declared.Geometry.{Geometry}
use Rattle.scan.specs.declared.Scan.{Scan}
use Rattle.scan.specs.declared.Taking.TheVariants as taking
use Rattle.scan.specs.declared.Scoring.TheVariants as scoring
use Rattle.scan.specs.declared.RegionReport.{RegionReport}
use Rattle.scan.specs.declared.RegionReport.TheVariants as regionReport
use Rattle.scan.specs.declared.LevelReport.{LevelReport}
use Rattle.scan.specs.declared.LevelReport.TheVariants as level
use Rattle.scan.specs.declared.SamplesReport.{SamplesReport}
use Rattle.scan.specs.declared.SamplesReport.TheVariants as samples

-- how many bins the profile's far envelope keeps beyond the window
abbrev pub panel_slack : ℕ
panel_slack = 512

-- what the profile allows
unfoldable pub panel_table : ℕ → ℕ → Bool
panel_table rate ceiling = both (either (eqb rate 8000) (eqb rate 16000)) (within 8 320 ceiling)

abbrev pub allows : Scan → Bool
allows s = panel_table s.geometry.rate s.geometry.ceiling

-- ---- 24 KiB for audio

-- a level takes 4 bytes, a sum 8
abbrev pub buffer_bytes : Geometry → ℕ
buffer_bytes g = 4 * (envelope_len panel_slack g + near_len g + window_len g) + 8 * (prefix_len g + prefix_len g + lags g + lags g)

-- with the state's words, each of 8 bytes
abbrev pub panel_bytes : Geometry → ℕ
panel_bytes g = buffer_bytes g + 8 * scan_words

abbrev pub panel_room : ℕ
panel_room = 24 * 1024

-- ---- the calls: `refused` where the profile does not allow the state's settings, else the scan's call
abbrev pub panelled : {A : Type 0} → Scan → A → A → A
panelled s refused call = pick (allows s) call refused

unfoldable pub panel_making_refusal : ℕ → ℕ → List Float → List Float → ℕ
panel_making_refusal rate ceiling envelope lag_sums =
    require (panel_table rate ceiling) outside_table
    (require (restart_lengths panel_slack (geometry_of rate ceiling) envelope lag_sums) wrong_length
    none)

-- refused, it returns the state for rate 8,000 and ceiling 8
unfoldable pub panel_made : ℕ → ℕ → List Float → List Float → Restart
panel_made rate ceiling envelope lag_sums =
    let n = panel_making_refusal rate ceiling envelope lag_sums in
    if_refused n
    (restart (changed_by (change.Refused n) (new_scan 8000 8)) envelope lag_sums)
    (zeroed panel_slack (new_scan rate ceiling))

unfoldable pub panel_reset : Scan → List Float → List Float → Restart
panel_reset s envelope lag_sums =
    panelled s (restart (changed_by (change.Refused outside_table) s) envelope lag_sums) (was_reset panel_slack s envelope lag_sums)

unfoldable pub panel_pushed_far : Scan → List Float → List Float → FarPush
panel_pushed_far s envelope xs =
    panelled s (record { changed = changed_by (change.Refused outside_table) s; envelope = envelope }) (pushed_far panel_slack s envelope xs)

unfoldable pub panel_pushed_near : Scan → List Float → Float → ℕ → NearPush
panel_pushed_near s levels x index = panelled s (untaken s levels (taking.Refused outside_table)) (pushed_near s levels x index)

unfoldable pub panel_handed : Scan → List Float → List Float → ℕ → NearRun
panel_handed s levels xs first = panelled s (unchanged s levels (run.Refused outside_table)) (handed s levels xs first)

unfoldable pub panel_observed : World → Observation
panel_observed w =
    panelled w.scan
    (record { scored = record { scan = w.scan; answer = scoring.Refused outside_table }; buffers = w.buffers })
    (observed panel_slack w)

unfoldable pub panel_rearmed : Scan → List Float → Clearing
panel_rearmed s lag_sums = panelled s (record { changed = changed_by (change.Refused outside_table) s; lag_sums = lag_sums }) (rearmed s lag_sums)

unfoldable pub panel_discarded : Scan → List Float → Clearing
panel_discarded s lag_sums = panelled s (record { changed = changed_by (change.Refused outside_table) s; lag_sums = lag_sums }) (discarded s lag_sums)

-- ---- the reports

unfoldable pub panel_bin_samples : Scan → SamplesReport
panel_bin_samples s = panelled s (samples.Refused outside_table) (bin_samples s)

unfoldable pub panel_ceiling_samples : Scan → SamplesReport
panel_ceiling_samples s = panelled s (samples.Refused outside_table) (ceiling_samples s)

unfoldable pub panel_region_of : Scan → RegionReport
panel_region_of s = panelled s (regionReport.Refused outside_table) (region_of s)

unfoldable pub panel_beyond_ceiling : Scan → Flag
panel_beyond_ceiling s = panelled s (flag.Refused outside_table) (beyond_ceiling s)

unfoldable pub panel_frames_of : Scan → Count
panel_frames_of s = panelled s (count.Refused outside_table) (frames_of s)

unfoldable pub panel_correlation_of : Scan → LevelReport
panel_correlation_of s = panelled s (level.Refused outside_table) (correlation_of s)

unfoldable pub panel_is_finished : Scan → Flag
panel_is_finished s = panelled s (flag.Refused outside_table) (is_finished s)

unfoldable pub panel_is_exhausted : Scan → Flag
panel_is_exhausted s = panelled s (flag.Refused outside_table) (is_exhausted s)

abbrev pub panel_reported : Scan → Report → Response
panel_reported s bin_samples_report = reports_samples (panel_bin_samples s)
panel_reported s ceiling_samples_report = reports_samples (panel_ceiling_samples s)
panel_reported s region = reports_region (panel_region_of s)
panel_reported s beyond_ceiling_report = reports_flag (panel_beyond_ceiling s)
panel_reported s frames = reports_count (panel_frames_of s)
panel_reported s correlation = reports_level (panel_correlation_of s)
panel_reported s finished = reports_flag (panel_is_finished s)
panel_reported s exhausted = reports_flag (panel_is_exhausted s)

-- ---- any call on a panel's scan with its buffers, as `called` of the full scan

unfoldable pub panel_called : World → Call → Step
panel_called w (far xs) =
    let p = panel_pushed_far w.scan w.buffers.envelope xs in
    step (changes p.changed.answer) p.changed.scan (with_envelope w.buffers p.envelope)
panel_called w (deed (near x index)) =
    let p = panel_pushed_near w.scan w.buffers.levels x index in
    step (takes p.took.answer) p.took.scan (with_levels w.buffers p.levels)
panel_called w (deed score) =
    let p = panel_observed w in
    step (scores p.scored.answer) p.scored.scan p.buffers
panel_called w (deed rearm) =
    let p = panel_rearmed w.scan w.buffers.lag_sums in
    step (changes p.changed.answer) p.changed.scan (with_lag_sums w.buffers p.lag_sums)
panel_called w (deed discard) =
    let p = panel_discarded w.scan w.buffers.lag_sums in
    step (changes p.changed.answer) p.changed.scan (with_lag_sums w.buffers p.lag_sums)
panel_called w (deed reset) =
    let p = panel_reset w.scan w.buffers.envelope w.buffers.lag_sums in
    step (changes p.changed.answer) p.changed.scan (with_lag_sums (with_envelope w.buffers p.envelope) p.lag_sums)
panel_called w (deed (ask r)) = step (panel_reported w.scan r) w.scan w.buffers

-- a making with these buffers lent
unfoldable pub panel_making : ℕ → ℕ → Buffers → Step
panel_making rate ceiling b =
    let p = panel_made rate ceiling b.envelope b.lag_sums in
    step (changes p.changed.answer) p.changed.scan (with_lag_sums (with_envelope b p.envelope) p.lag_sums)

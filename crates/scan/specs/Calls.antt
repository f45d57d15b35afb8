-- Every public call of the scan: when it is refused, what it answers, and what it leaves in the state and in the buffers that it is lent.
-- SPECIFICATION 3, 7 and 8; what is cleared is coarse.rs's.
use Rattle.std.specs.Prelude.{ℕ, ◌+◌, List, Bool, true, not, leb, ltb, eqb, length, take, Float}
use Rattle.std.specs.Float.Ieee.Scale.{finite}
use Rattle.answers.specs.Pick.{pick, both, either}
use Rattle.answers.specs.Refusals.{require, before, if_refused, none, outside_table, wrong_length, not_finite, too_large, frame_waits, no_full_frame}
use Rattle.answers.specs.declared.Change.{Change}
use Rattle.answers.specs.declared.Change.TheVariants as change
use Rattle.answers.specs.declared.Count.{Count}
use Rattle.answers.specs.declared.Flag.{Flag}
use Rattle.answers.specs.Answers.{counted, flagged}
use Rattle.answers.specs.Numbers.{limit}
use Rattle.units.specs.Units.{bins, in_samples}
use Rattle.floats.specs.Functions.{narrow}
use Rattle.folds.specs.Sums.{zeros, all_finite, prefix_sums, prefix_squares}
use Rattle.scan.specs.Bins.{in_table, geometry_of, envelope_len, near_len, window_len, prefix_len, lags}
use Rattle.scan.specs.State.{Buffers, World, new_far, new_near, new_verdict, new_scan, emptied, finished, full, due, first_refusals}
use Rattle.scan.specs.Blocks.{Heard, hear_all, Seen, gather, dropped, held_at}
use Rattle.scan.specs.Scoring.{uncovered, ahead, window_of, quiet, flat, scores_of, products, peak_of, add_scores, Ruling, ruling}
use Rattle.scan.specs.declared.Geometry.{Geometry}
use Rattle.scan.specs.declared.Far.{Far}
use Rattle.scan.specs.declared.Near.{Near}
use Rattle.scan.specs.declared.Found.{Found}
use Rattle.scan.specs.declared.Found.TheVariants.{Nothing, At}
use Rattle.scan.specs.declared.Verdict.{Verdict}
use Rattle.scan.specs.declared.Scan.{Scan}
use Rattle.scan.specs.declared.Frame.{Frame}
use Rattle.scan.specs.declared.Frame.TheVariants as frame
use Rattle.scan.specs.declared.Changed.{Changed}
use Rattle.scan.specs.declared.Taking.{Taking}
use Rattle.scan.specs.declared.Taking.TheVariants as taking
use Rattle.scan.specs.declared.Took.{Took}
use Rattle.scan.specs.declared.Scoring.TheVariants as scoring
use Rattle.scan.specs.declared.Scored.{Scored}
use Rattle.scan.specs.declared.RegionReport.{RegionReport}
use Rattle.scan.specs.declared.RegionReport.TheVariants as region
use Rattle.scan.specs.declared.LevelReport.{LevelReport}
use Rattle.scan.specs.declared.LevelReport.TheVariants as level
use Rattle.scan.specs.declared.SamplesReport.{SamplesReport}
use Rattle.scan.specs.declared.SamplesReport.TheVariants as samples

-- ---- the state with one part anew

abbrev pub with_far : Scan → Far → Scan
with_far s f = record { geometry = s.geometry; far = f; near = s.near; verdict = s.verdict }

abbrev pub with_near : Scan → Near → Scan
with_near s n = record { geometry = s.geometry; far = s.far; near = n; verdict = s.verdict }

abbrev pub with_near_verdict : Scan → Near → Verdict → Scan
with_near_verdict s n v = record { geometry = s.geometry; far = s.far; near = n; verdict = v }

-- A refusal returns its number and the state it was given; no lent buffer is written.
abbrev pub changed_by : Change → Scan → Changed
changed_by a s = record { scan = s; answer = a }

-- ---- a making and a reset. Lent: the far envelope and the lag sums.

pub record Restart : Type 0 where
  pub changed : Changed
  pub envelope : List Float
  pub lag_sums : List Float

abbrev pub restart : Changed → List Float → List Float → Restart
restart c envelope lag_sums = record { changed = c; envelope = envelope; lag_sums = lag_sums }

-- a new scan zeroes the envelope and the lag sums
abbrev pub zeroed : ℕ → Scan → Restart
zeroed slack s = restart (changed_by change.Done s) (zeros (envelope_len slack s.geometry)) (zeros (lags s.geometry))

abbrev pub restart_lengths : ℕ → Geometry → List Float → List Float → Bool
restart_lengths slack g envelope lag_sums = both (eqb (length envelope) (envelope_len slack g)) (eqb (length lag_sums) (lags g))

unfoldable pub making_refusal : ℕ → ℕ → ℕ → List Float → List Float → ℕ
making_refusal slack rate ceiling envelope lag_sums =
    require (in_table rate ceiling) outside_table
    (require (restart_lengths slack (geometry_of rate ceiling) envelope lag_sums) wrong_length
    none)

-- refused, it returns the state for rate 8,000 and ceiling 1
unfoldable pub made : ℕ → ℕ → ℕ → List Float → List Float → Restart
made slack rate ceiling envelope lag_sums =
    let n = making_refusal slack rate ceiling envelope lag_sums in
    if_refused n
    (restart (changed_by (change.Refused n) (new_scan 8000 1)) envelope lag_sums)
    (zeroed slack (new_scan rate ceiling))

unfoldable pub reset_refusal : ℕ → Scan → List Float → List Float → ℕ
reset_refusal slack s envelope lag_sums = first_refusals s (restart_lengths slack (due s) envelope lag_sums)

-- the scan as it was made
unfoldable pub was_reset : ℕ → Scan → List Float → List Float → Restart
was_reset slack s envelope lag_sums =
    let n = reset_refusal slack s envelope lag_sums in
    if_refused n
    (restart (changed_by (change.Refused n) s) envelope lag_sums)
    (zeroed slack (record { geometry = s.geometry; far = new_far; near = new_near; verdict = new_verdict }))

-- ---- a push of far samples. Lent: the far envelope.

pub record FarPush : Type 0 where
  pub changed : Changed
  pub envelope : List Float

unfoldable pub far_refusal : ℕ → Scan → List Float → List Float → ℕ
far_refusal slack s envelope xs =
    before (first_refusals s (eqb (length envelope) (envelope_len slack (due s))))
    (require (leb (s.far.accepted + length xs) limit) too_large
    (require (all_finite xs) not_finite
    none))

abbrev pub heard_by : Scan → Heard → FarPush
heard_by s h = record { changed = changed_by change.Done (with_far s h.far); envelope = h.envelope }

unfoldable pub pushed_far : ℕ → Scan → List Float → List Float → FarPush
pushed_far slack s envelope xs =
    let n = far_refusal slack s envelope xs in
    if_refused n
    (record { changed = changed_by (change.Refused n) s; envelope = envelope })
    (heard_by s (hear_all slack s.geometry (record { far = s.far; envelope = envelope }) xs))

-- ---- one near sample with its index. Lent: the near envelope.

pub record NearPush : Type 0 where
  pub took : Took
  pub levels : List Float

-- A finished scan accepts it after 1 to 3, whatever it holds. A dropped sample is not read. A full frame waits, also for a sample that would meet a hole.
unfoldable pub near_refusal : Scan → List Float → Float → ℕ → ℕ
near_refusal s levels x index =
    before (first_refusals s (eqb (length levels) (near_len (due s))))
    (pick (finished s.verdict) none
    (require (not (full s.geometry s.near)) frame_waits
    (require (ltb index limit) too_large
    (require (either (dropped s.geometry (held_at s.near index) index) (finite x)) not_finite
    none))))

-- the sample is not taken
abbrev pub untaken : Scan → List Float → Taking → NearPush
untaken s levels a = record { took = record { scan = s; answer = a }; levels = levels }

abbrev pub taken_by : Scan → Seen → NearPush
taken_by s t =
    record {
      took = record { scan = with_near s t.near; answer = pick (full s.geometry t.near) taking.Full taking.Taken };
      levels = t.levels;
    }

-- A hole drops the frame under way, whether the sample begins another or not; a refused sample changes nothing.
unfoldable pub pushed_near : Scan → List Float → Float → ℕ → NearPush
pushed_near s levels x index =
    let n = near_refusal s levels x index in
    if_refused n
    (untaken s levels (taking.Refused n))
    (pick (finished s.verdict) (untaken s levels taking.Ignored)
    (let m = held_at s.near index in
    pick (dropped s.geometry m index) (untaken (with_near s m) levels taking.Dropped)
    (taken_by s (gather s.geometry (record { near = m; levels = levels }) x index))))

-- ---- a full frame is scored. Lent: all seven buffers.

pub record Observation : Type 0 where
  pub scored : Scored
  pub buffers : Buffers

abbrev pub all_lengths : ℕ → Geometry → Buffers → Bool
all_lengths slack g b =
    both (eqb (length b.envelope) (envelope_len slack g))
    (both (eqb (length b.levels) (near_len g))
    (both (eqb (length b.window) (window_len g))
    (both (eqb (length b.prefix) (prefix_len g))
    (both (eqb (length b.squares) (prefix_len g))
    (both (eqb (length b.scores) (lags g))
    (eqb (length b.lag_sums) (lags g)))))))

-- the frame's near levels, and its window
abbrev pub frame_of : World → List Float
frame_of w = take w.scan.near.len w.buffers.levels

abbrev pub window_in : ℕ → World → List Float
window_in slack w = window_of slack w.scan.geometry w.scan.far.next w.scan.near.first w.buffers.envelope

abbrev pub is_uncovered : ℕ → World → Bool
is_uncovered slack w = uncovered slack w.scan.geometry w.scan.far.next w.scan.near.first

abbrev pub is_ahead : World → Bool
is_ahead w = ahead w.scan.geometry w.scan.far.next w.scan.near.first

-- A frame that is neither uncovered nor ahead reads its near levels, the written bins of its window (the others are 0, which is finite) and all lag sums.
abbrev pub readable : ℕ → World → Bool
readable slack w = both (all_finite (frame_of w)) (both (all_finite (window_in slack w)) (all_finite w.buffers.lag_sums))

unfoldable pub score_refusal : ℕ → World → ℕ
score_refusal slack w =
    before (first_refusals w.scan (all_lengths slack (due w.scan) w.buffers))
    (require (full w.scan.geometry w.scan.near) no_full_frame
    (require (either (is_uncovered slack w) (either (is_ahead w) (readable slack w))) not_finite
    none))

-- the near frame is consumed in every case
abbrev pub consumed : Near → Near
consumed n = record { len = 0; sum = n.sum; count = n.count; first = n.first; last = n.last }

-- with this answer, reporting n products
abbrev pub observation : Scan → Verdict → Frame → ℕ → Buffers → Observation
observation s v a n b = record { scored = record { scan = with_near_verdict s (consumed s.near) v; answer = scoring.Frame a n }; buffers = b }

-- after 1 and 2 no buffer is written; steps 1 to 4 form no product
abbrev pub unread : World → Frame → Observation
unread w a = observation w.scan w.scan.verdict a 0 w.buffers

-- after 3 and 4 only the window
abbrev pub uncounted : World → List Float → Frame → Observation
uncounted w window a =
    observation w.scan w.scan.verdict a 0
    (record {
      envelope = w.buffers.envelope;
      levels = w.buffers.levels;
      window = window;
      prefix = w.buffers.prefix;
      squares = w.buffers.squares;
      scores = w.buffers.scores;
      lag_sums = w.buffers.lag_sums;
    })

-- after the rest window, prefixes, scores and sums hold the values of steps 5 to 7
abbrev pub counted_by : World → List Float → List Float → Ruling → ℕ → Observation
counted_by w window scores r n =
    observation w.scan r.verdict r.answer n
    (record {
      envelope = w.buffers.envelope;
      levels = w.buffers.levels;
      window = window;
      prefix = prefix_sums window;
      squares = prefix_squares window;
      scores = scores;
      lag_sums = r.lag_sums;
    })

-- steps 5 to 8
unfoldable pub counted_frame : World → List Float → List Float → Observation
counted_frame w levels window =
    let g = w.scan.geometry in
    let scores = scores_of g levels window in
    counted_by w window scores (ruling g w.scan.verdict (peak_of scores) (add_scores g w.buffers.lag_sums scores)) (products g levels window)

-- steps 3 to 8, from the near levels and the window
unfoldable pub judged : World → List Float → List Float → Observation
judged w levels window =
    pick (quiet window) (uncounted w window frame.Quiet)
    (pick (flat levels) (uncounted w window frame.Flat)
    (counted_frame w levels window))

-- steps 1 to 8
unfoldable pub scored_frame : ℕ → World → Observation
scored_frame slack w =
    pick (is_uncovered slack w) (unread w frame.Uncovered)
    (pick (is_ahead w) (unread w frame.Ahead)
    (judged w (frame_of w) (window_in slack w)))

unfoldable pub observed : ℕ → World → Observation
observed slack w =
    let n = score_refusal slack w in
    if_refused n
    (record { scored = record { scan = w.scan; answer = scoring.Refused n }; buffers = w.buffers })
    (scored_frame slack w)

-- ---- rearm and discard_near. Lent: the lag sums.

pub record Clearing : Type 0 where
  pub changed : Changed
  pub lag_sums : List Float

unfoldable pub clear_refusal : Scan → List Float → ℕ
clear_refusal s lag_sums = first_refusals s (eqb (length lag_sums) (lags (due s)))

abbrev pub clearing : Scan → List Float → Scan → Clearing
clearing s lag_sums cleared =
    let n = clear_refusal s lag_sums in
    if_refused n
    (record { changed = changed_by (change.Refused n) s; lag_sums = lag_sums })
    (record { changed = changed_by change.Done cleared; lag_sums = zeros (lags s.geometry) })

-- the near frame and the verdict as new; the far side stays, its partial block too
unfoldable pub rearmed : Scan → List Float → Clearing
rearmed s lag_sums = clearing s lag_sums (with_near_verdict s new_near new_verdict)

-- the near frame but for its first bin, and the frames banked; the frames counted, the last peak, the region and the flags stay
abbrev pub unbanked : Verdict → Verdict
unbanked v = record { banked = 0; frames = v.frames; last = v.last; found = v.found; beyond = v.beyond; exhausted = v.exhausted }

unfoldable pub discarded : Scan → List Float → Clearing
discarded s lag_sums =
    clearing s lag_sums (with_near_verdict s (emptied s.near) (unbanked s.verdict))

-- ---- reports. No buffer is lent: each refuses 1 and 3.

unfoldable pub report_refusal : Scan → ℕ
report_refusal s = first_refusals s true

-- one bin in native samples
unfoldable pub bin_samples : Scan → SamplesReport
bin_samples s = if_refused (report_refusal s) (samples.Refused (report_refusal s)) (samples.Is (in_samples s.geometry.decimation (bins 1)))

-- the ceiling in native samples
unfoldable pub ceiling_samples : Scan → SamplesReport
ceiling_samples s = if_refused (report_refusal s) (samples.Refused (report_refusal s)) (samples.Is (in_samples s.geometry.decimation (bins s.geometry.span)))

unfoldable pub region_of : Scan → RegionReport
region_of s = if_refused (report_refusal s) (region.Refused (report_refusal s)) (region.Is s.verdict.found)

unfoldable pub beyond_ceiling : Scan → Flag
beyond_ceiling s = flagged (report_refusal s) s.verdict.beyond

unfoldable pub is_finished : Scan → Flag
is_finished s = flagged (report_refusal s) (finished s.verdict)

unfoldable pub is_exhausted : Scan → Flag
is_exhausted s = flagged (report_refusal s) s.verdict.exhausted

-- the frames counted
unfoldable pub frames_of : Scan → Count
frames_of s = counted (report_refusal s) s.verdict.frames

-- the region's averaged value as f32, and before there is one the last frame's peak
abbrev pub correlation_in : Found → Float → Float
correlation_in Nothing last = last
correlation_in (At r) last = narrow r.correlation

unfoldable pub correlation_of : Scan → LevelReport
correlation_of s = if_refused (report_refusal s) (level.Refused (report_refusal s)) (level.Is (correlation_in s.verdict.found s.verdict.last))

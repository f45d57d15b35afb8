-- Every call of the pair, by the scan's definition of it.
-- "Refusals: 11, channel number not 0 or 1, before all others; 2 and 3 judge only the common part and the named channel's own, a reset both."
use Rattle.std.specs.Prelude.{ℕ, List, Bool, Float}
use Rattle.answers.specs.Pick.{both}
use Rattle.answers.specs.Refusals.{require, before, if_refused, none, outside_table, wrong_length}
use Rattle.folds.specs.Sums.{zeros}
use Rattle.scan.specs.Bins.{in_table, geometry_of, envelope_len, lags}
use Rattle.scan.specs.State.{Buffers, due, first_refusals}
use Rattle.scan.specs.Calls.{restart_lengths, pushed_far, pushed_near, Clearing, rearmed, discarded, observed, bin_samples, ceiling_samples, region_of, beyond_ceiling, is_finished, is_exhausted, frames_of, correlation_of}
use Rattle.scan.specs.declared.Geometry.{Geometry}
use Rattle.scan.specs.declared.Scan.{Scan}
use Rattle.answers.specs.declared.Change.{Change}
use Rattle.answers.specs.declared.Change.TheVariants as change
use Rattle.scan.specs.declared.Taking.TheVariants as taking
use Rattle.scan.specs.declared.Scoring.TheVariants as scoring
use Rattle.scan.specs.declared.RegionReport.{RegionReport}
use Rattle.scan.specs.declared.RegionReport.TheVariants as region
use Rattle.answers.specs.declared.Flag.{Flag}
use Rattle.answers.specs.declared.Flag.TheVariants as flag
use Rattle.answers.specs.declared.Count.{Count}
use Rattle.answers.specs.declared.Count.TheVariants as count
use Rattle.scan.specs.declared.LevelReport.{LevelReport}
use Rattle.scan.specs.declared.LevelReport.TheVariants as level
use Rattle.scan.specs.declared.SamplesReport.{SamplesReport}
use Rattle.scan_pair.specs.declared.PairChanged.{PairChanged}
use Rattle.scan_pair.specs.declared.PairTook.{PairTook}
use Rattle.scan_pair.specs.declared.PairScored.{PairScored}
use Rattle.scan_pair.specs.declared.Pair.{Pair}
use Rattle.scan_pair.specs.State.{Side, Named, no_such_channel, on_channel, restarted, new_pair, chosen, with_channel, pair_with_far, as_scan, channel_of, common}

-- the pair with what a call left in channel d
abbrev pub left_in : Pair → Side → Scan → Pair
left_in p d s = with_channel p d (channel_of s)

-- the scan of channel d
abbrev pub scan_of : Pair → Side → Scan
scan_of p d = as_scan p (chosen p d)

-- ---- a making and a reset. Lent: the far envelope, and the lag sums of both channels.

pub record PairRestart : Type 0 where
  pub changed : PairChanged
  pub envelope : List Float
  pub first_sums : List Float
  pub second_sums : List Float

abbrev pub restart_by : Change → Pair → List Float → List Float → List Float → PairRestart
restart_by a p envelope first_sums second_sums = record { changed = record { pair = p; answer = a }; envelope = envelope; first_sums = first_sums; second_sums = second_sums }

-- "A reset restarts numbering for both at once": the far side and both channels are new, and all three buffers are zeroed
abbrev pub both_anew : ℕ → Geometry → PairRestart
both_anew slack g = restart_by change.Done (restarted g) (zeros (envelope_len slack g)) (zeros (lags g)) (zeros (lags g))

abbrev pub both_lengths : ℕ → Geometry → List Float → List Float → List Float → Bool
both_lengths slack g envelope first_sums second_sums = both (restart_lengths slack g envelope first_sums) (restart_lengths slack g envelope second_sums)

unfoldable pub pair_making_refusal : ℕ → ℕ → ℕ → List Float → List Float → List Float → ℕ
pair_making_refusal slack rate ceiling envelope first_sums second_sums =
    require (in_table rate ceiling) outside_table
    (require (both_lengths slack (geometry_of rate ceiling) envelope first_sums second_sums) wrong_length
    none)

-- refused, it returns the pair for rate 8,000 and ceiling 1
unfoldable pub pair_made : ℕ → ℕ → ℕ → List Float → List Float → List Float → PairRestart
pair_made slack rate ceiling envelope first_sums second_sums =
    let n = pair_making_refusal slack rate ceiling envelope first_sums second_sums in
    if_refused n
    (restart_by (change.Refused n) (new_pair 8000 1) envelope first_sums second_sums)
    (both_anew slack (geometry_of rate ceiling))

-- "a reset both": the two channels have the same settings and lengths to keep to, so that 3 stands behind 2 whichever is broken
unfoldable pub pair_reset_refusal : ℕ → Pair → List Float → List Float → List Float → ℕ
pair_reset_refusal slack p envelope first_sums second_sums =
    let lengths = both_lengths slack (due (common p)) envelope first_sums second_sums in
    before (first_refusals (as_scan p p.first) lengths)
    (first_refusals (as_scan p p.second) lengths)

unfoldable pub pair_reset : ℕ → Pair → List Float → List Float → List Float → PairRestart
pair_reset slack p envelope first_sums second_sums =
    let n = pair_reset_refusal slack p envelope first_sums second_sums in
    if_refused n
    (restart_by (change.Refused n) p envelope first_sums second_sums)
    (both_anew slack p.geometry)

-- ---- "Far pushes are common to both", and are judged by the common part alone. Lent: the far envelope.

pub record PairFarPush : Type 0 where
  pub changed : PairChanged
  pub envelope : List Float

unfoldable pub pair_far : ℕ → Pair → List Float → List Float → PairFarPush
pair_far slack p envelope xs =
    let q = pushed_far slack (common p) envelope xs in
    record { changed = record { pair = pair_with_far p q.changed.scan.far; answer = q.changed.answer }; envelope = q.envelope }

-- ---- one near sample with its index. Lent: the named channel's near levels.

pub record PairNearPush : Type 0 where
  pub took : PairTook
  pub levels : List Float

unfoldable pub pair_near : Pair → Named → List Float → Float → ℕ → PairNearPush
pair_near p n levels x index =
    on_channel n (record { took = record { pair = p; answer = taking.Refused no_such_channel }; levels = levels })
    (λ d. let q = pushed_near (scan_of p d) levels x index in
    record { took = record { pair = left_in p d q.took.scan; answer = q.took.answer }; levels = q.levels })

-- ---- a full frame is scored. Lent: the far envelope, the named channel's near levels and lag sums, and the scratch.

pub record PairObservation : Type 0 where
  pub scored : PairScored
  pub buffers : Buffers

unfoldable pub pair_observed : ℕ → Pair → Named → Buffers → PairObservation
pair_observed slack p n b =
    on_channel n (record { scored = record { pair = p; answer = scoring.Refused no_such_channel }; buffers = b })
    (λ d. let q = observed slack (record { scan = scan_of p d; buffers = b }) in
    record { scored = record { pair = left_in p d q.scored.scan; answer = q.scored.answer }; buffers = q.buffers })

-- ---- rearm and discard_near. Lent: the named channel's lag sums.

pub record PairClearing : Type 0 where
  pub changed : PairChanged
  pub lag_sums : List Float

abbrev pub pair_clearing : Pair → Named → List Float → (Scan → List Float → Clearing) → PairClearing
pair_clearing p n lag_sums call =
    on_channel n (record { changed = record { pair = p; answer = change.Refused no_such_channel }; lag_sums = lag_sums })
    (λ d. let q = call (scan_of p d) lag_sums in
    record { changed = record { pair = left_in p d q.changed.scan; answer = q.changed.answer }; lag_sums = q.lag_sums })

unfoldable pub pair_rearmed : Pair → Named → List Float → PairClearing
pair_rearmed p n lag_sums = pair_clearing p n lag_sums rearmed

unfoldable pub pair_discarded : Pair → Named → List Float → PairClearing
pair_discarded p n lag_sums = pair_clearing p n lag_sums discarded

-- ---- the six reports of a channel

unfoldable pub pair_region : Pair → Named → RegionReport
pair_region p n = on_channel n (region.Refused no_such_channel) (λ d. region_of (scan_of p d))

unfoldable pub pair_beyond_ceiling : Pair → Named → Flag
pair_beyond_ceiling p n = on_channel n (flag.Refused no_such_channel) (λ d. beyond_ceiling (scan_of p d))

unfoldable pub pair_frames : Pair → Named → Count
pair_frames p n = on_channel n (count.Refused no_such_channel) (λ d. frames_of (scan_of p d))

unfoldable pub pair_correlation : Pair → Named → LevelReport
pair_correlation p n = on_channel n (level.Refused no_such_channel) (λ d. correlation_of (scan_of p d))

unfoldable pub pair_finished : Pair → Named → Flag
pair_finished p n = on_channel n (flag.Refused no_such_channel) (λ d. is_finished (scan_of p d))

unfoldable pub pair_exhausted : Pair → Named → Flag
pair_exhausted p n = on_channel n (flag.Refused no_such_channel) (λ d. is_exhausted (scan_of p d))

-- ---- the two reports of the settings, judged by the common part alone

unfoldable pub pair_bin_samples : Pair → SamplesReport
pair_bin_samples p = bin_samples (common p)

unfoldable pub pair_ceiling_samples : Pair → SamplesReport
pair_ceiling_samples p = ceiling_samples (common p)

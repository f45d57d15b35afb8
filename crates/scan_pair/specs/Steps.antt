-- Any public call on a pair with its buffers: what it answers, and the pair and buffers after it.
use Rattle.std.specs.Prelude.{ℕ, List, Float}
use Rattle.scan.specs.State.{Buffers}
use Rattle.scan.specs.Steps.{Deed, Response, changes, takes, scores, reports_region, reports_flag, reports_count, reports_level, reports_samples, with_levels, with_lag_sums}
use Rattle.scan.specs.Steps as base
use Rattle.scan_pair.specs.declared.Pair.{Pair}
use Rattle.scan_pair.specs.State.{first, Named, named, on_channel, PairBuffers, PairWorld, buffers_of, put_back}
use Rattle.scan_pair.specs.Calls.{PairRestart, pair_made, pair_reset, pair_far, pair_near, pair_observed, pair_rearmed, pair_discarded, pair_region, pair_beyond_ceiling, pair_frames, pair_correlation, pair_finished, pair_exhausted, pair_bin_samples, pair_ceiling_samples}

-- ---- the calls

pub data OwnReport : Type 0 where
  region beyond_ceiling_report frames correlation finished exhausted : OwnReport

pub data Setting : Type 0 where
  bin_samples_report ceiling_samples_report : Setting

-- what a channel is asked to do. "there is no reset of one"
pub data Own : Type 0 where
  near : Float → ℕ → Own
  score rearm discard : Own
  ask : OwnReport → Own

-- the calls that name a channel, and those that are common to both
pub data PairCall : Type 0 where
  on : ℕ → Own → PairCall
  far : List Float → PairCall
  reset : PairCall
  settings : Setting → PairCall

-- ---- the same as calls of a scan

abbrev pub as_report : OwnReport → base.Report
as_report region = base.region
as_report beyond_ceiling_report = base.beyond_ceiling_report
as_report frames = base.frames
as_report correlation = base.correlation
as_report finished = base.finished
as_report exhausted = base.exhausted

abbrev pub as_setting : Setting → base.Report
as_setting bin_samples_report = base.bin_samples_report
as_setting ceiling_samples_report = base.ceiling_samples_report

abbrev pub as_deed : Own → Deed
as_deed (near x index) = base.near x index
as_deed score = base.score
as_deed rearm = base.rearm
as_deed discard = base.discard
as_deed (ask r) = base.ask (as_report r)

-- ---- a call

pub record PairStep : Type 0 where
  pub response : Response
  pub world : PairWorld

abbrev pub pair_step : Response → Pair → PairBuffers → PairStep
pair_step a p b = record { response = a; world = record { pair = p; buffers = b } }

abbrev pub own_reported : Pair → Named → OwnReport → Response
own_reported p n region = reports_region (pair_region p n)
own_reported p n beyond_ceiling_report = reports_flag (pair_beyond_ceiling p n)
own_reported p n frames = reports_count (pair_frames p n)
own_reported p n correlation = reports_level (pair_correlation p n)
own_reported p n finished = reports_flag (pair_finished p n)
own_reported p n exhausted = reports_flag (pair_exhausted p n)

abbrev pub setting_reported : Pair → Setting → Response
setting_reported p bin_samples_report = reports_samples (pair_bin_samples p)
setting_reported p ceiling_samples_report = reports_samples (pair_ceiling_samples p)

-- the buffers lent to a call: the named channel's. Where the number names none, whatever is lent is not looked at.
abbrev pub lent_to : PairBuffers → Named → Buffers
lent_to b n = on_channel n (buffers_of b first) (buffers_of b)

abbrev pub handed_back : PairBuffers → Named → Buffers → PairBuffers
handed_back b n l = on_channel n b (λ d. put_back b d l)

unfoldable pub own_called : ℕ → PairWorld → Named → Own → PairStep
own_called slack w n (near x index) =
    let l = lent_to w.buffers n in
    let q = pair_near w.pair n l.levels x index in
    pair_step (takes q.took.answer) q.took.pair (handed_back w.buffers n (with_levels l q.levels))
own_called slack w n score =
    let q = pair_observed slack w.pair n (lent_to w.buffers n) in
    pair_step (scores q.scored.answer) q.scored.pair (handed_back w.buffers n q.buffers)
own_called slack w n rearm =
    let l = lent_to w.buffers n in
    let q = pair_rearmed w.pair n l.lag_sums in
    pair_step (changes q.changed.answer) q.changed.pair (handed_back w.buffers n (with_lag_sums l q.lag_sums))
own_called slack w n discard =
    let l = lent_to w.buffers n in
    let q = pair_discarded w.pair n l.lag_sums in
    pair_step (changes q.changed.answer) q.changed.pair (handed_back w.buffers n (with_lag_sums l q.lag_sums))
own_called slack w n (ask r) = pair_step (own_reported w.pair n r) w.pair w.buffers

abbrev pub with_pair_envelope : PairBuffers → List Float → PairBuffers
with_pair_envelope b e = record { envelope = e; first = b.first; second = b.second; window = b.window; prefix = b.prefix; squares = b.squares; scores = b.scores }

-- what a making or a reset leaves
abbrev pub restart_step : PairBuffers → PairRestart → PairStep
restart_step b q =
    pair_step (changes q.changed.answer) q.changed.pair
    (record {
      envelope = q.envelope;
      first = record { levels = b.first.levels; lag_sums = q.first_sums };
      second = record { levels = b.second.levels; lag_sums = q.second_sums };
      window = b.window;
      prefix = b.prefix;
      squares = b.squares;
      scores = b.scores;
    })

unfoldable pub pair_called : ℕ → PairWorld → PairCall → PairStep
pair_called slack w (on c k) = own_called slack w (named c) k
pair_called slack w (far xs) =
    let q = pair_far slack w.pair w.buffers.envelope xs in
    pair_step (changes q.changed.answer) q.changed.pair (with_pair_envelope w.buffers q.envelope)
pair_called slack w reset =
    let b = w.buffers in
    restart_step b (pair_reset slack w.pair b.envelope b.first.lag_sums b.second.lag_sums)
pair_called slack w (settings r) = pair_step (setting_reported w.pair r) w.pair w.buffers

-- a making with these buffers lent
unfoldable pub pair_making : ℕ → ℕ → ℕ → PairBuffers → PairStep
pair_making slack rate ceiling b = restart_step b (pair_made slack rate ceiling b.envelope b.first.lag_sums b.second.lag_sums)

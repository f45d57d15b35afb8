-- What happened in a program that calls a pair: each call with the contract of its function, as the prover reads it, and what it was handed and returned (scan_forgets: Happened).
use Rattle.std.specs.Prelude.{ℕ, ◌+◌, ◌≡◌, List, [], ◌∷◌, ◌++◌, T, take, Float}
use Rattle.std.specs.Float.{binary64}
use Rattle.std.specs.Float.Ieee.{fits}
use Rattle.answers.specs.Refusals.{none}
use Rattle.scan.specs.Bins.{full_slack}
use Rattle.scan.specs.Steps.{Response, refusal_of, changes, takes, scores, reports_count, reports_flag, reports_level, reports_region, reports_samples, with_levels, with_lag_sums}
use Rattle.scan.specs.Streams.{AllF32}
use Rattle.scan_score.specs.Observing.{lent}
use Rattle.scan_handover.specs.Singles.{taken_in}
use Rattle.scan_forgets.specs.Happened.{Return}
use Rattle.scan_pair.specs.State.{Side, named, PairBuffers, PairWorld, seen}
use Rattle.scan_pair.specs.Steps.{region, beyond_ceiling_report, frames, correlation, finished, exhausted, bin_samples_report, ceiling_samples_report, near, score, rearm, discard, ask, PairCall, on, far, reset, settings, pair_called, with_pair_envelope, lent_to, handed_back, restart_step}
use Rattle.scan_pair.specs.declared.Pair.{Pair}
use Rattle.scan_pair_calls.proofs.push_far.Kinds as push-far-kinds
use Rattle.scan_pair_calls.proofs.push_far.Reads as push-far-reads
use Rattle.scan_pair_calls.proofs.push_near.Kinds as push-near-kinds
use Rattle.scan_pair_calls.proofs.push_near.Reads as push-near-reads
use Rattle.scan_pair_calls.proofs.push_near_run.Kinds as push-near-run-kinds
use Rattle.scan_pair_calls.proofs.push_near_run.Reads as push-near-run-reads
use Rattle.scan_pair_calls.proofs.observe.Kinds as observe-kinds
use Rattle.scan_pair_calls.proofs.observe.Reads as observe-reads
use Rattle.scan_pair_calls.proofs.rearm.Kinds as rearm-kinds
use Rattle.scan_pair_calls.proofs.rearm.Reads as rearm-reads
use Rattle.scan_pair_calls.proofs.discard_near.Kinds as discard-near-kinds
use Rattle.scan_pair_calls.proofs.discard_near.Reads as discard-near-reads
use Rattle.scan_pair_calls.proofs.reset.Kinds as reset-kinds
use Rattle.scan_pair_calls.proofs.reset.Reads as reset-reads
use Rattle.scan_pair_calls.proofs.new.Kinds as new-kinds
use Rattle.scan_pair_calls.proofs.new.Reads as new-reads
use Rattle.scan_pair_calls.proofs.reports.region.Kinds as region-kinds
use Rattle.scan_pair_calls.proofs.reports.region.Reads as region-reads
use Rattle.scan_pair_calls.proofs.reports.beyond_ceiling.Kinds as beyond-ceiling-kinds
use Rattle.scan_pair_calls.proofs.reports.beyond_ceiling.Reads as beyond-ceiling-reads
use Rattle.scan_pair_calls.proofs.reports.frames.Kinds as frames-kinds
use Rattle.scan_pair_calls.proofs.reports.frames.Reads as frames-reads
use Rattle.scan_pair_calls.proofs.reports.correlation.Kinds as correlation-kinds
use Rattle.scan_pair_calls.proofs.reports.correlation.Reads as correlation-reads
use Rattle.scan_pair_calls.proofs.reports.finished.Kinds as finished-kinds
use Rattle.scan_pair_calls.proofs.reports.finished.Reads as finished-reads
use Rattle.scan_pair_calls.proofs.reports.exhausted.Kinds as exhausted-kinds
use Rattle.scan_pair_calls.proofs.reports.exhausted.Reads as exhausted-reads
use Rattle.scan_pair_calls.proofs.reports.bin_samples.Kinds as bin-samples-kinds
use Rattle.scan_pair_calls.proofs.reports.bin_samples.Reads as bin-samples-reads
use Rattle.scan_pair_calls.proofs.reports.ceiling_samples.Kinds as ceiling-samples-kinds
use Rattle.scan_pair_calls.proofs.reports.ceiling_samples.Reads as ceiling-samples-reads

abbrev pub pair_world : Pair → PairBuffers → PairWorld
pair_world p b = record { pair = p; buffers = b }

-- ---- calls with their answers

-- a call that was answered, and the state and buffers that it was handed
pub record PairAnswered : Type 0 where
  pub handed : PairWorld
  pub call : PairCall
  pub response : Response

abbrev pub one_pair : PairWorld → PairCall → Response → List PairAnswered
one_pair w c r = record { handed = w; call = c; response = r } ∷ []

-- near samples of consecutive indices on one channel, each as a call of its own
unfoldable pub singly_on : ℕ → List Float → ℕ → List PairCall
singly_on c [] index = []
singly_on c (x ∷ xs) index = on c (near x index) ∷ singly_on c xs (index + 1)

-- calls in turn as the rules answer them
unfoldable pub pair_by_rules : PairWorld → List PairCall → List PairAnswered
pair_by_rules w [] = []
pair_by_rules w (c ∷ calls) = record { handed = w; call = c; response = (pair_called full_slack w c).response } ∷ pair_by_rules (pair_called full_slack w c).world calls

-- ---- every public call of the pair

-- The function was handed the pair and buffers of w, was answered so, and w' is what it returned and left. A call of a channel is lent the buffers of that channel.
-- A run of near samples stands for single pushes of the samples that it took, as the rules answer them: none where it was refused. Its samples are of the type f32, and the running sum of the type f64.
pub data PairHappened : PairWorld → List PairAnswered → PairWorld → Type 0 where
  by_push_far : (f : Return 2 push-far-kinds.ps push-far-kinds.r push-far-reads.Post) (w : PairWorld) → w.pair ≡ f.given.0 → w.buffers.envelope ≡ f.given.1.0.now
      → PairHappened w (one_pair w (far f.given.1.1.0.now) (changes f.result.answer)) (pair_world f.result.pair (with_pair_envelope w.buffers f.left.1.0.now))
  by_push_near : (f : Return 1 push-near-kinds.ps push-near-kinds.r push-near-reads.Post) (w : PairWorld) → w.pair ≡ f.given.0 → (lent_to w.buffers (named f.given.1.0)).levels ≡ f.given.1.1.0.now
      → PairHappened w (one_pair w (on f.given.1.0 (near f.given.1.1.1.0 f.given.1.1.1.1.0)) (takes f.result.answer)) (pair_world f.result.pair (handed_back w.buffers (named f.given.1.0) (with_levels (lent_to w.buffers (named f.given.1.0)) f.left.1.1.0.now)))
  by_push_near_run : (f : Return 2 push-near-run-kinds.ps push-near-run-kinds.r push-near-run-reads.Post) (w : PairWorld) → w.pair ≡ f.given.0 → (lent_to w.buffers (named f.given.1.0)).levels ≡ f.given.1.1.0.now → AllF32 f.given.1.1.1.0.now → ((d : Side) → T (fits binary64 (seen w d).scan.near.sum))
      → PairHappened w (pair_by_rules w (singly_on f.given.1.0 (take (taken_in f.result.answer) f.given.1.1.1.0.now) f.given.1.1.1.1.0)) (pair_world f.result.pair (handed_back w.buffers (named f.given.1.0) (with_levels (lent_to w.buffers (named f.given.1.0)) f.left.1.1.0.now)))
  by_observe : (f : Return 7 observe-kinds.ps observe-kinds.r observe-reads.Post) (w : PairWorld) → w.pair ≡ f.given.0 → lent_to w.buffers (named f.given.1.0) ≡ lent f.given.1.1.0.now f.given.1.1.1.0.now f.given.1.1.1.1.0.now f.given.1.1.1.1.1.0.now f.given.1.1.1.1.1.1.0.now f.given.1.1.1.1.1.1.1.0.now f.given.1.1.1.1.1.1.1.1.0.now
      → PairHappened w (one_pair w (on f.given.1.0 score) (scores f.result.answer)) (pair_world f.result.pair (handed_back w.buffers (named f.given.1.0) (lent f.given.1.1.0.now f.given.1.1.1.0.now f.left.1.1.1.1.0.now f.left.1.1.1.1.1.0.now f.left.1.1.1.1.1.1.0.now f.left.1.1.1.1.1.1.1.0.now f.left.1.1.1.1.1.1.1.1.0.now)))
  by_rearm : (f : Return 1 rearm-kinds.ps rearm-kinds.r rearm-reads.Post) (w : PairWorld) → w.pair ≡ f.given.0 → (lent_to w.buffers (named f.given.1.0)).lag_sums ≡ f.given.1.1.0.now
      → PairHappened w (one_pair w (on f.given.1.0 rearm) (changes f.result.answer)) (pair_world f.result.pair (handed_back w.buffers (named f.given.1.0) (with_lag_sums (lent_to w.buffers (named f.given.1.0)) f.left.1.1.0.now)))
  by_discard_near : (f : Return 1 discard-near-kinds.ps discard-near-kinds.r discard-near-reads.Post) (w : PairWorld) → w.pair ≡ f.given.0 → (lent_to w.buffers (named f.given.1.0)).lag_sums ≡ f.given.1.1.0.now
      → PairHappened w (one_pair w (on f.given.1.0 discard) (changes f.result.answer)) (pair_world f.result.pair (handed_back w.buffers (named f.given.1.0) (with_lag_sums (lent_to w.buffers (named f.given.1.0)) f.left.1.1.0.now)))
  by_reset_call : (f : Return 3 reset-kinds.ps reset-kinds.r reset-reads.Post) (w : PairWorld) → w.pair ≡ f.given.0 → w.buffers.envelope ≡ f.given.1.0.now → w.buffers.first.lag_sums ≡ f.given.1.1.0.now → w.buffers.second.lag_sums ≡ f.given.1.1.1.0.now
      → PairHappened w (one_pair w reset (changes f.result.answer)) (restart_step w.buffers (record { changed = f.result; envelope = f.left.1.0.now; first_sums = f.left.1.1.0.now; second_sums = f.left.1.1.1.0.now })).world
  by_region : (f : Return 0 region-kinds.ps region-kinds.r region-reads.Post) (w : PairWorld) → w.pair ≡ f.given.0
      → PairHappened w (one_pair w (on f.given.1.0 (ask region)) (reports_region f.result)) (w)
  by_beyond_ceiling : (f : Return 0 beyond-ceiling-kinds.ps beyond-ceiling-kinds.r beyond-ceiling-reads.Post) (w : PairWorld) → w.pair ≡ f.given.0
      → PairHappened w (one_pair w (on f.given.1.0 (ask beyond_ceiling_report)) (reports_flag f.result)) (w)
  by_frames : (f : Return 0 frames-kinds.ps frames-kinds.r frames-reads.Post) (w : PairWorld) → w.pair ≡ f.given.0
      → PairHappened w (one_pair w (on f.given.1.0 (ask frames)) (reports_count f.result)) (w)
  by_correlation : (f : Return 0 correlation-kinds.ps correlation-kinds.r correlation-reads.Post) (w : PairWorld) → w.pair ≡ f.given.0
      → PairHappened w (one_pair w (on f.given.1.0 (ask correlation)) (reports_level f.result)) (w)
  by_finished : (f : Return 0 finished-kinds.ps finished-kinds.r finished-reads.Post) (w : PairWorld) → w.pair ≡ f.given.0
      → PairHappened w (one_pair w (on f.given.1.0 (ask finished)) (reports_flag f.result)) (w)
  by_exhausted : (f : Return 0 exhausted-kinds.ps exhausted-kinds.r exhausted-reads.Post) (w : PairWorld) → w.pair ≡ f.given.0
      → PairHappened w (one_pair w (on f.given.1.0 (ask exhausted)) (reports_flag f.result)) (w)
  by_bin_samples : (f : Return 0 bin-samples-kinds.ps bin-samples-kinds.r bin-samples-reads.Post) (w : PairWorld) → w.pair ≡ f.given.0
      → PairHappened w (one_pair w (settings bin_samples_report) (reports_samples f.result)) (w)
  by_ceiling_samples : (f : Return 0 ceiling-samples-kinds.ps ceiling-samples-kinds.r ceiling-samples-reads.Post) (w : PairWorld) → w.pair ≡ f.given.0
      → PairHappened w (one_pair w (settings ceiling_samples_report) (reports_samples f.result)) (w)

-- ---- calls in turn

-- none of them was accepted
abbrev pub AllRefusedOfPair : List PairAnswered → Type 0
AllRefusedOfPair [] = Unit {0}
AllRefusedOfPair (a ∷ rest) = (refusal_of a.response ≡ none → ⊥) × AllRefusedOfPair rest

-- Each call was handed what the last returned; or it was handed anything else, and was refused: `around` says what the pair's own state and buffers are, given those that the call was handed.
pub data PairInTurn : PairWorld → List PairAnswered → PairWorld → Type 0 where
  none_more : (w : PairWorld) → PairInTurn w [] w
  next : {w w' w'' : PairWorld} {now later : List PairAnswered} → PairHappened w now w' → PairInTurn w' later w'' → PairInTurn w (now ++ later) w''
  foreign : {v v' w' : PairWorld} {other later : List PairAnswered} (around : PairWorld → PairWorld) → PairHappened v other v' → AllRefusedOfPair other → PairInTurn (around v') later w' → PairInTurn (around v) later w'

-- ---- a pair began

-- a making with these settings was not refused, or a reset of a pair that has them
pub data PairBegun (rate ceiling : ℕ) : PairWorld → Type 0 where
  made : (f : Return 3 new-kinds.ps new-kinds.r new-reads.Post) (b : PairBuffers) → rate ≡ f.given.0 → ceiling ≡ f.given.1.0 → b.envelope ≡ f.given.1.1.0.now → b.first.lag_sums ≡ f.given.1.1.1.0.now → b.second.lag_sums ≡ f.given.1.1.1.1.0.now
      → refusal_of (changes f.result.answer) ≡ none → PairBegun rate ceiling (restart_step b (record { changed = f.result; envelope = f.left.1.1.0.now; first_sums = f.left.1.1.1.0.now; second_sums = f.left.1.1.1.1.0.now })).world
  afresh : (w w' : PairWorld) (r : Response) → w.pair.geometry.rate ≡ rate → w.pair.geometry.ceiling ≡ ceiling → PairHappened w (one_pair w reset r) w' → refusal_of r ≡ none → PairBegun rate ceiling w'

-- What happened in a program that calls the scan: each call with the contract of its function, as the prover reads it, and what it was handed and returned.
-- A contract is all that is known of a return: whatever body meets it, these are its calls.
use Rattle.std.specs.Prelude.{ℕ, ◌≡◌, List, [], ◌∷◌, ◌++◌, take, Float}
use contract.Lifetimes.{Lfts}
use denote.Triple.Clauses.{AtExit}
use borrow.Fn.Kinds.{ParamKind, ResultKind, Out, Dens, res_t, ended_of}
use Rattle.answers.specs.Numbers.{next_long_count}
use Rattle.answers.specs.Refusals.{none}
use Rattle.scan.specs.Bins.{full_slack}
use Rattle.scan.specs.State.{Buffers, World}
use Rattle.scan.specs.Steps.{Call, Response, near, score, rearm, discard, reset, ask, far, deed, refusal_of, called, changes, takes, scores, reports_count, reports_flag, reports_level, reports_region, reports_samples, bin_samples_report, ceiling_samples_report, region, beyond_ceiling_report, frames, correlation, finished, exhausted, with_envelope, with_levels, with_lag_sums}
use Rattle.scan_score.specs.Observing.{world, lent}
use Rattle.scan_calls.proofs.new.Kinds as new-kinds
use Rattle.scan_calls.proofs.new.Reads as new-reads
use Rattle.scan_calls.proofs.reset.Kinds as reset-kinds
use Rattle.scan_calls.proofs.reset.Reads as reset-reads
use Rattle.scan_calls.proofs.rearm.Kinds as rearm-kinds
use Rattle.scan_calls.proofs.rearm.Reads as rearm-reads
use Rattle.scan_calls.proofs.discard_near.Kinds as discard-near-kinds
use Rattle.scan_calls.proofs.discard_near.Reads as discard-near-reads
use Rattle.scan_push.proofs.push_far.Kinds as push-far-kinds
use Rattle.scan_push.proofs.push_far.Reads as push-far-reads
use Rattle.scan_push.proofs.push_near.Kinds as push-near-kinds
use Rattle.scan_push.proofs.push_near.Reads as push-near-reads
use Rattle.scan_runs.proofs.push_near_run.Kinds as push-near-run-kinds
use Rattle.scan_runs.proofs.push_near_run.Reads as push-near-run-reads
use Rattle.scan_score.proofs.observe.Kinds as observe-kinds
use Rattle.scan_score.proofs.observe.Reads as observe-reads
use Rattle.scan_calls.proofs.reports.bin_samples.Kinds as bin-samples-kinds
use Rattle.scan_calls.proofs.reports.bin_samples.Reads as bin-samples-reads
use Rattle.scan_calls.proofs.reports.ceiling_samples.Kinds as ceiling-samples-kinds
use Rattle.scan_calls.proofs.reports.ceiling_samples.Reads as ceiling-samples-reads
use Rattle.scan_calls.proofs.reports.region.Kinds as region-kinds
use Rattle.scan_calls.proofs.reports.region.Reads as region-reads
use Rattle.scan_calls.proofs.reports.beyond_ceiling.Kinds as beyond-ceiling-kinds
use Rattle.scan_calls.proofs.reports.beyond_ceiling.Reads as beyond-ceiling-reads
use Rattle.scan_calls.proofs.reports.frames.Kinds as frames-kinds
use Rattle.scan_calls.proofs.reports.frames.Reads as frames-reads
use Rattle.scan_calls.proofs.reports.correlation.Kinds as correlation-kinds
use Rattle.scan_calls.proofs.reports.correlation.Reads as correlation-reads
use Rattle.scan_calls.proofs.reports.finished.Kinds as finished-kinds
use Rattle.scan_calls.proofs.reports.finished.Reads as finished-reads
use Rattle.scan_calls.proofs.reports.exhausted.Kinds as exhausted-kinds
use Rattle.scan_calls.proofs.reports.exhausted.Reads as exhausted-reads

-- ---- a function that returned

-- Some arguments, a result, and the parameters as the function left them, such as its contract admits. `given.0` is the first argument, `given.1.0` the second,
-- `given.1.1.0` the third; `left` has the same order, and `now` is what stands in a lent list.
pub record Return (n : ℕ) (ps : List (ParamKind n)) (r : ResultKind n) (Post : Out n ps r) : Type 0 where
  pub lifetimes : Lfts n
  pub given : Dens lifetimes ps
  pub result : (res_t r lifetimes).Denot
  pub left : AtExit (ended_of n ps r) lifetimes
  pub admitted : Post lifetimes given result left

-- ---- calls with their answers

-- a call that was answered, and the state and buffers that it was handed
pub record Answered : Type 0 where
  pub handed : World
  pub call : Call
  pub response : Response

abbrev pub one : World → Call → Response → List Answered
one w c r = record { handed = w; call = c; response = r } ∷ []

-- near samples of consecutive indices, each as a call of its own
unfoldable pub as_singles : List Float → ℕ → List Call
as_singles [] index = []
as_singles (x ∷ xs) index = deed (near x index) ∷ as_singles xs (next_long_count index)

-- calls in turn as the rules answer them
unfoldable pub by_rules : World → List Call → List Answered
by_rules w [] = []
by_rules w (c ∷ calls) = record { handed = w; call = c; response = (called full_slack w c).response } ∷ by_rules (called full_slack w c).world calls

-- ---- every public call of the scan

-- The function was handed the state and buffers of w, was answered so, and w' is what it returned and left: a state, and the buffers that it was lent. What it was not lent stays.
-- A run of near samples returns no answer to each sample, but how many passed: its calls are so many single ones, with the answers that the rules give them.
pub data Happened : World → List Answered → World → Type 0 where
  by_push_far : (f : Return 2 push-far-kinds.ps push-far-kinds.r push-far-reads.Post) (w : World) → w.scan ≡ f.given.0 → w.buffers.envelope ≡ f.given.1.0.now
      → Happened w (one w (far f.given.1.1.0.now) (changes f.result.answer)) (world f.result.scan (with_envelope w.buffers f.left.1.0.now))
  by_push_near : (f : Return 1 push-near-kinds.ps push-near-kinds.r push-near-reads.Post) (w : World) → w.scan ≡ f.given.0 → w.buffers.levels ≡ f.given.1.0.now
      → Happened w (one w (deed (near f.given.1.1.0 f.given.1.1.1.0)) (takes f.result.answer)) (world f.result.scan (with_levels w.buffers f.left.1.0.now))
  by_push_near_run : (f : Return 2 push-near-run-kinds.ps push-near-run-kinds.r push-near-run-reads.Post) (w : World) → w.scan ≡ f.given.0 → w.buffers.levels ≡ f.given.1.0.now
      → Happened w (by_rules w (as_singles (take f.result.passed f.given.1.1.0.now) f.given.1.1.1.0)) (world f.result.scan (with_levels w.buffers f.left.1.0.now))
  by_observe : (f : Return 7 observe-kinds.ps observe-kinds.r observe-reads.Post) (w : World) → w.scan ≡ f.given.0
      → w.buffers
      ≡ lent f.given.1.0.now f.given.1.1.0.now f.given.1.1.1.0.now f.given.1.1.1.1.0.now f.given.1.1.1.1.1.0.now f.given.1.1.1.1.1.1.0.now f.given.1.1.1.1.1.1.1.0.now
      → Happened w (one w (deed score) (scores f.result.answer))
      (world f.result.scan
      (lent w.buffers.envelope w.buffers.levels f.left.1.1.1.0.now f.left.1.1.1.1.0.now f.left.1.1.1.1.1.0.now f.left.1.1.1.1.1.1.0.now f.left.1.1.1.1.1.1.1.0.now))
  by_rearm : (f : Return 1 rearm-kinds.ps rearm-kinds.r rearm-reads.Post) (w : World) → w.scan ≡ f.given.0 → w.buffers.lag_sums ≡ f.given.1.0.now
      → Happened w (one w (deed rearm) (changes f.result.answer)) (world f.result.scan (with_lag_sums w.buffers f.left.1.0.now))
  by_discard_near : (f : Return 1 discard-near-kinds.ps discard-near-kinds.r discard-near-reads.Post) (w : World) → w.scan ≡ f.given.0 → w.buffers.lag_sums ≡ f.given.1.0.now
      → Happened w (one w (deed discard) (changes f.result.answer)) (world f.result.scan (with_lag_sums w.buffers f.left.1.0.now))
  by_reset_call : (f : Return 2 reset-kinds.ps reset-kinds.r reset-reads.Post) (w : World) → w.scan ≡ f.given.0 → w.buffers.envelope ≡ f.given.1.0.now → w.buffers.lag_sums ≡ f.given.1.1.0.now
      → Happened w (one w (deed reset) (changes f.result.answer)) (world f.result.scan (with_lag_sums (with_envelope w.buffers f.left.1.0.now) f.left.1.1.0.now))
  by_bin_samples : (f : Return 0 bin-samples-kinds.ps bin-samples-kinds.r bin-samples-reads.Post) (w : World) → w.scan ≡ f.given.0 → Happened w (one w (deed (ask bin_samples_report)) (reports_samples f.result)) w
  by_ceiling_samples : (f : Return 0 ceiling-samples-kinds.ps ceiling-samples-kinds.r ceiling-samples-reads.Post) (w : World) → w.scan ≡ f.given.0 → Happened w (one w (deed (ask ceiling_samples_report)) (reports_samples f.result)) w
  by_region : (f : Return 0 region-kinds.ps region-kinds.r region-reads.Post) (w : World) → w.scan ≡ f.given.0 → Happened w (one w (deed (ask region)) (reports_region f.result)) w
  by_beyond_ceiling : (f : Return 0 beyond-ceiling-kinds.ps beyond-ceiling-kinds.r beyond-ceiling-reads.Post) (w : World) → w.scan ≡ f.given.0 → Happened w (one w (deed (ask beyond_ceiling_report)) (reports_flag f.result)) w
  by_frames : (f : Return 0 frames-kinds.ps frames-kinds.r frames-reads.Post) (w : World) → w.scan ≡ f.given.0 → Happened w (one w (deed (ask frames)) (reports_count f.result)) w
  by_correlation : (f : Return 0 correlation-kinds.ps correlation-kinds.r correlation-reads.Post) (w : World) → w.scan ≡ f.given.0 → Happened w (one w (deed (ask correlation)) (reports_level f.result)) w
  by_finished : (f : Return 0 finished-kinds.ps finished-kinds.r finished-reads.Post) (w : World) → w.scan ≡ f.given.0 → Happened w (one w (deed (ask finished)) (reports_flag f.result)) w
  by_exhausted : (f : Return 0 exhausted-kinds.ps exhausted-kinds.r exhausted-reads.Post) (w : World) → w.scan ≡ f.given.0 → Happened w (one w (deed (ask exhausted)) (reports_flag f.result)) w

-- ---- calls in turn

-- none of them was accepted
abbrev pub AllRefused : List Answered → Type 0
AllRefused [] = Unit {0}
AllRefused (a ∷ rest) = (refusal_of a.response ≡ none → ⊥) × AllRefused rest

-- Each call was handed what the last returned; or it was handed anything else, and was refused (`foreign`; `unmade`, of a making). Such a call may have been lent some of the
-- stream's own buffers: `around` says what the stream's state and buffers are, given those that the call was handed, so that afterwards they hold what it left.
pub data InTurn : World → List Answered → World → Type 0 where
  none_more : (w : World) → InTurn w [] w
  next : {w w' w'' : World} {now later : List Answered} → Happened w now w' → InTurn w' later w'' → InTurn w (now ++ later) w''
  foreign : {v v' w' : World} {other later : List Answered} (around : World → World) → Happened v other v' → AllRefused other → InTurn (around v') later w' → InTurn (around v) later w'
  unmade : {w' : World} {later : List Answered} (around : Buffers → World) (f : Return 2 new-kinds.ps new-kinds.r new-reads.Post) (b : Buffers)
      → b.envelope ≡ f.given.1.1.0.now → b.lag_sums ≡ f.given.1.1.1.0.now → (refusal_of (changes f.result.answer) ≡ none → ⊥)
      → InTurn (around (with_lag_sums (with_envelope b f.left.1.1.0.now) f.left.1.1.1.0.now)) later w' → InTurn (around b) later w'

-- ---- a stream began

-- a making with these settings was not refused, or a reset of a scan that has them
pub data Begun (rate ceiling : ℕ) : World → Type 0 where
  made : (f : Return 2 new-kinds.ps new-kinds.r new-reads.Post) (b : Buffers) → rate ≡ f.given.0 → ceiling ≡ f.given.1.0 → b.envelope ≡ f.given.1.1.0.now → b.lag_sums ≡ f.given.1.1.1.0.now
      → refusal_of (changes f.result.answer) ≡ none → Begun rate ceiling (world f.result.scan (with_lag_sums (with_envelope b f.left.1.1.0.now) f.left.1.1.1.0.now))
  afresh : (w w' : World) (r : Response) → w.scan.geometry.rate ≡ rate → w.scan.geometry.ceiling ≡ ceiling → Happened w (one w (deed reset) r) w' → refusal_of r ≡ none → Begun rate ceiling w'

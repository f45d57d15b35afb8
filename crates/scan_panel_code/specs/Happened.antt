-- What happened in a program that calls the profile, and in one that calls the full scan: each call with the contract of its function, as the prover reads it, and what it was handed and
-- returned. A contract is all that is known of a return: whatever body meets it, these are its calls.
use Rattle.std.specs.Prelude.{ℕ, ◌≡◌, List, [], ◌∷◌}
use Rattle.answers.specs.Refusals.{none}
use Rattle.scan.specs.State.{Buffers, World}
use Rattle.scan.specs.Steps.{Call, Response, near, score, rearm, discard, reset, ask, far, deed, refusal_of, changes, takes, scores, reports_count, reports_flag, reports_level, reports_region, reports_samples, bin_samples_report, ceiling_samples_report, region, beyond_ceiling_report, frames, correlation, finished, exhausted, with_envelope, with_levels, with_lag_sums}
use Rattle.scan_score.specs.Observing.{world, lent}
use Rattle.scan_forgets.specs.Happened.{Return, one, Happened}
use Rattle.scan_handover.specs.declared.RunTaking.TheVariants as taking
use Rattle.scan_panel.specs.Feeds.{Fed, call, run, Answer, says, counts}
use Rattle.scan_calls.proofs.new.Kinds as full-new-kinds
use Rattle.scan_calls.proofs.new.Reads as full-new-reads
use Rattle.scan_handover.proofs.push_near_run.Kinds as full-run-kinds
use Rattle.scan_handover.proofs.push_near_run.Reads as full-run-reads
use Rattle.scan_panel_calls.proofs.push_near_run.Kinds as push-near-run-kinds
use Rattle.scan_panel_calls.proofs.push_near_run.Reads as push-near-run-reads
use Rattle.scan_panel_calls.proofs.new.Kinds as new-kinds
use Rattle.scan_panel_calls.proofs.new.Reads as new-reads
use Rattle.scan_panel_calls.proofs.reset.Kinds as reset-kinds
use Rattle.scan_panel_calls.proofs.reset.Reads as reset-reads
use Rattle.scan_panel_calls.proofs.rearm.Kinds as rearm-kinds
use Rattle.scan_panel_calls.proofs.rearm.Reads as rearm-reads
use Rattle.scan_panel_calls.proofs.discard_near.Kinds as discard-near-kinds
use Rattle.scan_panel_calls.proofs.discard_near.Reads as discard-near-reads
use Rattle.scan_panel_calls.proofs.push_far.Kinds as push-far-kinds
use Rattle.scan_panel_calls.proofs.push_far.Reads as push-far-reads
use Rattle.scan_panel_calls.proofs.push_near.Kinds as push-near-kinds
use Rattle.scan_panel_calls.proofs.push_near.Reads as push-near-reads
use Rattle.scan_panel_calls.proofs.observe.Kinds as observe-kinds
use Rattle.scan_panel_calls.proofs.observe.Reads as observe-reads
use Rattle.scan_panel_calls.proofs.reports.bin_samples.Kinds as bin-samples-kinds
use Rattle.scan_panel_calls.proofs.reports.bin_samples.Reads as bin-samples-reads
use Rattle.scan_panel_calls.proofs.reports.ceiling_samples.Kinds as ceiling-samples-kinds
use Rattle.scan_panel_calls.proofs.reports.ceiling_samples.Reads as ceiling-samples-reads
use Rattle.scan_panel_calls.proofs.reports.region.Kinds as region-kinds
use Rattle.scan_panel_calls.proofs.reports.region.Reads as region-reads
use Rattle.scan_panel_calls.proofs.reports.beyond_ceiling.Kinds as beyond-ceiling-kinds
use Rattle.scan_panel_calls.proofs.reports.beyond_ceiling.Reads as beyond-ceiling-reads
use Rattle.scan_panel_calls.proofs.reports.frames.Kinds as frames-kinds
use Rattle.scan_panel_calls.proofs.reports.frames.Reads as frames-reads
use Rattle.scan_panel_calls.proofs.reports.correlation.Kinds as correlation-kinds
use Rattle.scan_panel_calls.proofs.reports.correlation.Reads as correlation-reads
use Rattle.scan_panel_calls.proofs.reports.finished.Kinds as finished-kinds
use Rattle.scan_panel_calls.proofs.reports.finished.Reads as finished-reads
use Rattle.scan_panel_calls.proofs.reports.exhausted.Kinds as exhausted-kinds
use Rattle.scan_panel_calls.proofs.reports.exhausted.Reads as exhausted-reads

-- ---- every call of the profile

-- The function was handed the state and buffers of w, was answered so, and w' is what it returned and left: a state, and the buffers that it was lent. What it was not lent stays.
pub data PanelHappened : World → Fed → Answer → World → Type 0 where
  by_push_far : (f : Return 2 push-far-kinds.ps push-far-kinds.r push-far-reads.Post) (w : World) → w.scan ≡ f.given.0 → w.buffers.envelope ≡ f.given.1.0.now
      → PanelHappened w (call (far f.given.1.1.0.now)) (says (changes f.result.answer)) (world f.result.scan (with_envelope w.buffers f.left.1.0.now))
  by_push_near : (f : Return 1 push-near-kinds.ps push-near-kinds.r push-near-reads.Post) (w : World) → w.scan ≡ f.given.0 → w.buffers.levels ≡ f.given.1.0.now
      → PanelHappened w (call (deed (near f.given.1.1.0 f.given.1.1.1.0))) (says (takes f.result.answer)) (world f.result.scan (with_levels w.buffers f.left.1.0.now))
  by_push_near_run : (f : Return 2 push-near-run-kinds.ps push-near-run-kinds.r push-near-run-reads.Post) (w : World) → w.scan ≡ f.given.0 → w.buffers.levels ≡ f.given.1.0.now
      → PanelHappened w (run f.given.1.1.0.now f.given.1.1.1.0) (counts f.result.answer) (world f.result.scan (with_levels w.buffers f.left.1.0.now))
  by_observe : (f : Return 7 observe-kinds.ps observe-kinds.r observe-reads.Post) (w : World) → w.scan ≡ f.given.0
      → w.buffers
      ≡ lent f.given.1.0.now f.given.1.1.0.now f.given.1.1.1.0.now f.given.1.1.1.1.0.now f.given.1.1.1.1.1.0.now f.given.1.1.1.1.1.1.0.now f.given.1.1.1.1.1.1.1.0.now
      → PanelHappened w (call (deed score)) (says (scores f.result.answer))
      (world f.result.scan
      (lent w.buffers.envelope w.buffers.levels f.left.1.1.1.0.now f.left.1.1.1.1.0.now f.left.1.1.1.1.1.0.now f.left.1.1.1.1.1.1.0.now f.left.1.1.1.1.1.1.1.0.now))
  by_rearm : (f : Return 1 rearm-kinds.ps rearm-kinds.r rearm-reads.Post) (w : World) → w.scan ≡ f.given.0 → w.buffers.lag_sums ≡ f.given.1.0.now
      → PanelHappened w (call (deed rearm)) (says (changes f.result.answer)) (world f.result.scan (with_lag_sums w.buffers f.left.1.0.now))
  by_discard_near : (f : Return 1 discard-near-kinds.ps discard-near-kinds.r discard-near-reads.Post) (w : World) → w.scan ≡ f.given.0 → w.buffers.lag_sums ≡ f.given.1.0.now
      → PanelHappened w (call (deed discard)) (says (changes f.result.answer)) (world f.result.scan (with_lag_sums w.buffers f.left.1.0.now))
  by_reset_call : (f : Return 2 reset-kinds.ps reset-kinds.r reset-reads.Post) (w : World) → w.scan ≡ f.given.0 → w.buffers.envelope ≡ f.given.1.0.now → w.buffers.lag_sums ≡ f.given.1.1.0.now
      → PanelHappened w (call (deed reset)) (says (changes f.result.answer)) (world f.result.scan (with_lag_sums (with_envelope w.buffers f.left.1.0.now) f.left.1.1.0.now))
  by_bin_samples : (f : Return 0 bin-samples-kinds.ps bin-samples-kinds.r bin-samples-reads.Post) (w : World) → w.scan ≡ f.given.0 → PanelHappened w (call (deed (ask bin_samples_report))) (says (reports_samples f.result)) w
  by_ceiling_samples : (f : Return 0 ceiling-samples-kinds.ps ceiling-samples-kinds.r ceiling-samples-reads.Post) (w : World) → w.scan ≡ f.given.0 → PanelHappened w (call (deed (ask ceiling_samples_report))) (says (reports_samples f.result)) w
  by_region : (f : Return 0 region-kinds.ps region-kinds.r region-reads.Post) (w : World) → w.scan ≡ f.given.0 → PanelHappened w (call (deed (ask region))) (says (reports_region f.result)) w
  by_beyond_ceiling : (f : Return 0 beyond-ceiling-kinds.ps beyond-ceiling-kinds.r beyond-ceiling-reads.Post) (w : World) → w.scan ≡ f.given.0 → PanelHappened w (call (deed (ask beyond_ceiling_report))) (says (reports_flag f.result)) w
  by_frames : (f : Return 0 frames-kinds.ps frames-kinds.r frames-reads.Post) (w : World) → w.scan ≡ f.given.0 → PanelHappened w (call (deed (ask frames))) (says (reports_count f.result)) w
  by_correlation : (f : Return 0 correlation-kinds.ps correlation-kinds.r correlation-reads.Post) (w : World) → w.scan ≡ f.given.0 → PanelHappened w (call (deed (ask correlation))) (says (reports_level f.result)) w
  by_finished : (f : Return 0 finished-kinds.ps finished-kinds.r finished-reads.Post) (w : World) → w.scan ≡ f.given.0 → PanelHappened w (call (deed (ask finished))) (says (reports_flag f.result)) w
  by_exhausted : (f : Return 0 exhausted-kinds.ps exhausted-kinds.r exhausted-reads.Post) (w : World) → w.scan ≡ f.given.0 → PanelHappened w (call (deed (ask exhausted))) (says (reports_flag f.result)) w

-- ---- the full scan's: single calls are scan_forgets', a host's run is scan_handover's

pub data FullHappened : World → Fed → Answer → World → Type 0 where
  by_call : {w w' : World} {c : Call} {r : Response} → Happened w (one w c r) w' → FullHappened w (call c) (says r) w'
  by_run : (f : Return 2 full-run-kinds.ps full-run-kinds.r full-run-reads.Post) (w : World) → w.scan ≡ f.given.0 → w.buffers.levels ≡ f.given.1.0.now
      → FullHappened w (run f.given.1.1.0.now f.given.1.1.1.0) (counts f.result.answer) (world f.result.scan (with_levels w.buffers f.left.1.0.now))

-- ---- makings: with these settings, lent these buffers, answered so, and what it returned and left

pub data PanelMade (rate ceiling : ℕ) (b : Buffers) : Response → World → Type 0 where
  by_new : (f : Return 2 new-kinds.ps new-kinds.r new-reads.Post) → rate ≡ f.given.0 → ceiling ≡ f.given.1.0 → b.envelope ≡ f.given.1.1.0.now → b.lag_sums ≡ f.given.1.1.1.0.now
      → PanelMade rate ceiling b (changes f.result.answer) (world f.result.scan (with_lag_sums (with_envelope b f.left.1.1.0.now) f.left.1.1.1.0.now))

pub data FullMade (rate ceiling : ℕ) (b : Buffers) : Response → World → Type 0 where
  by_full_new : (f : Return 2 full-new-kinds.ps full-new-kinds.r full-new-reads.Post) → rate ≡ f.given.0 → ceiling ≡ f.given.1.0 → b.envelope ≡ f.given.1.1.0.now → b.lag_sums ≡ f.given.1.1.1.0.now
      → FullMade rate ceiling b (changes f.result.answer) (world f.result.scan (with_lag_sums (with_envelope b f.left.1.1.0.now) f.left.1.1.1.0.now))

-- ---- calls in turn

-- the refusal number of an answer, and 0 of one that is no refusal
abbrev pub refusal_in : Answer → ℕ
refusal_in (says r) = refusal_of r
refusal_in (counts (taking.Refused n)) = n
refusal_in (counts (taking.Ignored n)) = none
refusal_in (counts (taking.Taken n)) = none
refusal_in (counts (taking.Full n)) = none

-- Each call was handed what the last returned; or it was handed anything else, and was refused (`foreign`; `unmade`, of a making). Such a call may have been lent some of the
-- stream's own buffers: `around` says what the stream's state and buffers are, given those that the call was handed, so that afterwards they hold what it left.
pub data BothInTurn (Happens : World → Fed → Answer → World → Type 0) (Makes : ℕ → ℕ → Buffers → Response → World → Type 0) : World → List Fed → List Answer → World → Type 0 where
  none_more : (w : World) → BothInTurn Happens Makes w [] [] w
  next : {w w' w'' : World} {f : Fed} {a : Answer} {calls : List Fed} {told : List Answer} → Happens w f a w' → BothInTurn Happens Makes w' calls told w'' → BothInTurn Happens Makes w (f ∷ calls) (a ∷ told) w''
  foreign : {v v' w' : World} {f : Fed} {a : Answer} {calls : List Fed} {told : List Answer} (around : World → World) → Happens v f a v' → (refusal_in a ≡ none → ⊥)
      → BothInTurn Happens Makes (around v') calls told w' → BothInTurn Happens Makes (around v) calls told w'
  unmade : {rate ceiling : ℕ} {b : Buffers} {r : Response} {v w' : World} {calls : List Fed} {told : List Answer} (around : Buffers → World) → Makes rate ceiling b r v → (refusal_of r ≡ none → ⊥)
      → BothInTurn Happens Makes (around v.buffers) calls told w' → BothInTurn Happens Makes (around b) calls told w'

abbrev pub PanelInTurn : World → List Fed → List Answer → World → Type 0
PanelInTurn = BothInTurn PanelHappened PanelMade

abbrev pub FullInTurn : World → List Fed → List Answer → World → Type 0
FullInTurn = BothInTurn FullHappened FullMade

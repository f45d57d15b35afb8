-- Whatever a function's own contract admits is the step of `called` for that call, and a making is `making`.
use mathlib.Core.Path.{◌≡◌, ap}
use mathlib.Core.List.{List}
use lib.Ieee.{Float}
use Rattle.scan.specs.Bins.{full_slack}
use Rattle.scan.specs.State.{Buffers, World}
use Rattle.scan.specs.Calls.{FarPush, NearPush, Clearing, Restart}
use Rattle.scan.specs.Steps.{near, score, rearm, discard, reset, ask, far, deed, called, making, step, reports_count, reports_flag, reports_level, reports_region, reports_samples, bin_samples_report, ceiling_samples_report, region, beyond_ceiling_report, frames, correlation, finished, exhausted}
use Rattle.scan.proofs.Contracts.{far_step, near_step, score_step, clear_step, reset_step, far_called, near_called, score_called, rearm_called_lem, discard_called, reset_called_lem, report_called_lem, making_called}
use Rattle.scan.specs.declared.Changed.{Changed}
use Rattle.scan.specs.declared.Took.{Took}
use Rattle.scan_score.specs.Observing.{lent, saw}
use Rattle.scan_forgets.specs.Happened.{Return}
use Rattle.scan_calls.proofs.new.Kinds as new-kinds
use Rattle.scan_calls.proofs.new.Reads as new-reads
use Rattle.scan_calls.proofs.reset.Kinds as reset-kinds
use Rattle.scan_calls.proofs.reset.Reads as reset-reads
use Rattle.scan_calls.proofs.rearm.Kinds as rearm-kinds
use Rattle.scan_calls.proofs.rearm.Reads as rearm-reads
use Rattle.scan_calls.proofs.discard_near.Kinds as discard-near-kinds
use Rattle.scan_calls.proofs.discard_near.Reads as discard-near-reads
use Rattle.scan_push.proofs.push_far.Kinds as push-far-kinds
use Rattle.scan_push.proofs.push_far.Reads as push-far-reads
use Rattle.scan_push.proofs.push_near.Kinds as push-near-kinds
use Rattle.scan_push.proofs.push_near.Reads as push-near-reads
use Rattle.scan_score.proofs.observe.Kinds as observe-kinds
use Rattle.scan_score.proofs.observe.Reads as observe-reads
use Rattle.scan_calls.proofs.reports.bin_samples.Kinds as bin-samples-kinds
use Rattle.scan_calls.proofs.reports.bin_samples.Reads as bin-samples-reads
use Rattle.scan_calls.proofs.reports.ceiling_samples.Kinds as ceiling-samples-kinds
use Rattle.scan_calls.proofs.reports.ceiling_samples.Reads as ceiling-samples-reads
use Rattle.scan_calls.proofs.reports.region.Kinds as region-kinds
use Rattle.scan_calls.proofs.reports.region.Reads as region-reads
use Rattle.scan_calls.proofs.reports.beyond_ceiling.Kinds as beyond-ceiling-kinds
use Rattle.scan_calls.proofs.reports.beyond_ceiling.Reads as beyond-ceiling-reads
use Rattle.scan_calls.proofs.reports.frames.Kinds as frames-kinds
use Rattle.scan_calls.proofs.reports.frames.Reads as frames-reads
use Rattle.scan_calls.proofs.reports.correlation.Kinds as correlation-kinds
use Rattle.scan_calls.proofs.reports.correlation.Reads as correlation-reads
use Rattle.scan_calls.proofs.reports.finished.Kinds as finished-kinds
use Rattle.scan_calls.proofs.reports.finished.Reads as finished-reads
use Rattle.scan_calls.proofs.reports.exhausted.Kinds as exhausted-kinds
use Rattle.scan_calls.proofs.reports.exhausted.Reads as exhausted-reads

-- ---- what a call gives back, from its parts

far_whole : (q : FarPush) (c : Changed) (e : List Float) → c ≡ q.changed → e ≡ q.envelope → ◌≡◌ {A = FarPush} (record { changed = c; envelope = e }) q
far_whole q c e p r = rw (p, r)

near_whole : (q : NearPush) (c : Took) (l : List Float) → c ≡ q.took → l ≡ q.levels → ◌≡◌ {A = NearPush} (record { took = c; levels = l }) q
near_whole q c l p r = rw (p, r)

clear_whole : (q : Clearing) (c : Changed) (l : List Float) → c ≡ q.changed → l ≡ q.lag_sums → ◌≡◌ {A = Clearing} (record { changed = c; lag_sums = l }) q
clear_whole q c l p r = rw (p, r)

restart_whole : (q : Restart) (c : Changed) (e l : List Float) → c ≡ q.changed → e ≡ q.envelope → l ≡ q.lag_sums → ◌≡◌ {A = Restart} (record { changed = c; envelope = e; lag_sums = l }) q
restart_whole q c e l p r s = rw (p, r, s)

-- ---- pushes

pub push_far_steps : (f : Return 2 push-far-kinds.ps push-far-kinds.r push-far-reads.Post) (w : World) → w.scan ≡ f.given.0 → w.buffers.envelope ≡ f.given.1.0.now
    → far_step w.buffers (record { changed = f.result; envelope = f.left.1.0.now }) ≡ called full_slack w (far f.given.1.1.0.now)
push_far_steps f w s e = far_called full_slack w _ _ (rw (s, e) (far_whole _ _ _ f.admitted.0 f.admitted.1))

pub push_near_steps : (f : Return 1 push-near-kinds.ps push-near-kinds.r push-near-reads.Post) (w : World) → w.scan ≡ f.given.0 → w.buffers.levels ≡ f.given.1.0.now
    → near_step w.buffers (record { took = f.result; levels = f.left.1.0.now }) ≡ called full_slack w (deed (near f.given.1.1.0 f.given.1.1.1.0))
push_near_steps f w s e = near_called full_slack w _ _ _ (rw (s, e) (near_whole _ _ _ f.admitted.0 f.admitted.1))

-- ---- a frame is scored

pub observe_steps : (f : Return 7 observe-kinds.ps observe-kinds.r observe-reads.Post) (w : World) → w.scan ≡ f.given.0
    → w.buffers
    ≡ lent f.given.1.0.now f.given.1.1.0.now f.given.1.1.1.0.now f.given.1.1.1.1.0.now f.given.1.1.1.1.1.0.now f.given.1.1.1.1.1.1.0.now f.given.1.1.1.1.1.1.1.0.now
    → score_step
    (saw f.result
    (lent w.buffers.envelope w.buffers.levels f.left.1.1.1.0.now f.left.1.1.1.1.0.now f.left.1.1.1.1.1.0.now f.left.1.1.1.1.1.1.0.now f.left.1.1.1.1.1.1.1.0.now))
    ≡ called full_slack w (deed score)
observe_steps f w s e = score_called full_slack w _ (rw (s, e) f.admitted)

-- ---- rearm, discard_near, reset, a making

pub rearm_steps : (f : Return 1 rearm-kinds.ps rearm-kinds.r rearm-reads.Post) (w : World) → w.scan ≡ f.given.0 → w.buffers.lag_sums ≡ f.given.1.0.now
    → clear_step w.buffers (record { changed = f.result; lag_sums = f.left.1.0.now }) ≡ called full_slack w (deed rearm)
rearm_steps f w s e = rearm_called_lem full_slack w _ (rw (s, e) (clear_whole _ _ _ f.admitted.0 f.admitted.1))

pub discard_near_steps : (f : Return 1 discard-near-kinds.ps discard-near-kinds.r discard-near-reads.Post) (w : World) → w.scan ≡ f.given.0 → w.buffers.lag_sums ≡ f.given.1.0.now
    → clear_step w.buffers (record { changed = f.result; lag_sums = f.left.1.0.now }) ≡ called full_slack w (deed discard)
discard_near_steps f w s e = discard_called full_slack w _ (rw (s, e) (clear_whole _ _ _ f.admitted.0 f.admitted.1))

pub reset_steps : (f : Return 2 reset-kinds.ps reset-kinds.r reset-reads.Post) (w : World) → w.scan ≡ f.given.0 → w.buffers.envelope ≡ f.given.1.0.now → w.buffers.lag_sums ≡ f.given.1.1.0.now
    → reset_step w.buffers (record { changed = f.result; envelope = f.left.1.0.now; lag_sums = f.left.1.1.0.now }) ≡ called full_slack w (deed reset)
reset_steps f w s e l = reset_called_lem full_slack w _ (rw (s, e, l) (restart_whole _ _ _ _ f.admitted.0 f.admitted.1.0 f.admitted.1.1))

pub new_steps : (f : Return 2 new-kinds.ps new-kinds.r new-reads.Post) (b : Buffers) → b.envelope ≡ f.given.1.1.0.now → b.lag_sums ≡ f.given.1.1.1.0.now
    → reset_step b (record { changed = f.result; envelope = f.left.1.1.0.now; lag_sums = f.left.1.1.1.0.now }) ≡ making full_slack f.given.0 f.given.1.0 b
new_steps f b e l = making_called full_slack f.given.0 f.given.1.0 b _ (rw (e, l) (restart_whole _ _ _ _ f.admitted.0 f.admitted.1.0 f.admitted.1.1))

-- ---- reports

pub bin_samples_steps : (f : Return 0 bin-samples-kinds.ps bin-samples-kinds.r bin-samples-reads.Post) (w : World) → w.scan ≡ f.given.0 → step (reports_samples f.result) w.scan w.buffers ≡ called full_slack w (deed (ask bin_samples_report))
bin_samples_steps f w s = report_called_lem full_slack w bin_samples_report _ (rw s (ap reports_samples f.admitted))

pub ceiling_samples_steps : (f : Return 0 ceiling-samples-kinds.ps ceiling-samples-kinds.r ceiling-samples-reads.Post) (w : World) → w.scan ≡ f.given.0 → step (reports_samples f.result) w.scan w.buffers ≡ called full_slack w (deed (ask ceiling_samples_report))
ceiling_samples_steps f w s = report_called_lem full_slack w ceiling_samples_report _ (rw s (ap reports_samples f.admitted))

pub region_steps : (f : Return 0 region-kinds.ps region-kinds.r region-reads.Post) (w : World) → w.scan ≡ f.given.0 → step (reports_region f.result) w.scan w.buffers ≡ called full_slack w (deed (ask region))
region_steps f w s = report_called_lem full_slack w region _ (rw s (ap reports_region f.admitted))

pub beyond_ceiling_steps : (f : Return 0 beyond-ceiling-kinds.ps beyond-ceiling-kinds.r beyond-ceiling-reads.Post) (w : World) → w.scan ≡ f.given.0 → step (reports_flag f.result) w.scan w.buffers ≡ called full_slack w (deed (ask beyond_ceiling_report))
beyond_ceiling_steps f w s = report_called_lem full_slack w beyond_ceiling_report _ (rw s (ap reports_flag f.admitted))

pub frames_steps : (f : Return 0 frames-kinds.ps frames-kinds.r frames-reads.Post) (w : World) → w.scan ≡ f.given.0 → step (reports_count f.result) w.scan w.buffers ≡ called full_slack w (deed (ask frames))
frames_steps f w s = report_called_lem full_slack w frames _ (rw s (ap reports_count f.admitted))

pub correlation_steps : (f : Return 0 correlation-kinds.ps correlation-kinds.r correlation-reads.Post) (w : World) → w.scan ≡ f.given.0 → step (reports_level f.result) w.scan w.buffers ≡ called full_slack w (deed (ask correlation))
correlation_steps f w s = report_called_lem full_slack w correlation _ (rw s (ap reports_level f.admitted))

pub finished_steps : (f : Return 0 finished-kinds.ps finished-kinds.r finished-reads.Post) (w : World) → w.scan ≡ f.given.0 → step (reports_flag f.result) w.scan w.buffers ≡ called full_slack w (deed (ask finished))
finished_steps f w s = report_called_lem full_slack w finished _ (rw s (ap reports_flag f.admitted))

pub exhausted_steps : (f : Return 0 exhausted-kinds.ps exhausted-kinds.r exhausted-reads.Post) (w : World) → w.scan ≡ f.given.0 → step (reports_flag f.result) w.scan w.buffers ≡ called full_slack w (deed (ask exhausted))
exhausted_steps f w s = report_called_lem full_slack w exhausted _ (rw s (ap reports_flag f.admitted))

-- Whatever a function's own contract admits is the step of `pair_called` for that call, and a making is `pair_making`.
use mathlib.Core.Path.{◌≡◌, sym, ◌∙◌}
use Rattle.scan.specs.Bins.{full_slack}
use Rattle.scan.specs.Steps.{changes, takes, scores, reports_count, reports_flag, reports_level, reports_region, reports_samples, with_levels, with_lag_sums}
use Rattle.scan_score.specs.Observing.{lent}
use Rattle.scan_forgets.specs.Happened.{Return}
use Rattle.scan_pair.specs.State.{named, PairBuffers, PairWorld}
use Rattle.scan_pair.specs.Calls.{pair_made, pair_reset, pair_far, pair_near, pair_observed, pair_rearmed, pair_discarded, pair_region, pair_beyond_ceiling, pair_frames, pair_correlation, pair_finished, pair_exhausted, pair_bin_samples, pair_ceiling_samples}
use Rattle.scan_pair.specs.Steps.{region, beyond_ceiling_report, frames, correlation, finished, exhausted, bin_samples_report, ceiling_samples_report, near, score, rearm, discard, ask, on, far, reset, settings, pair_step, own_called, pair_called, pair_making, with_pair_envelope, lent_to, handed_back, restart_step}
use Rattle.scan_pair_calls.proofs.push_far.Kinds as push-far-kinds
use Rattle.scan_pair_calls.proofs.push_far.Reads as push-far-reads
use Rattle.scan_pair_calls.proofs.push_near.Kinds as push-near-kinds
use Rattle.scan_pair_calls.proofs.push_near.Reads as push-near-reads
use Rattle.scan_pair_calls.proofs.observe.Kinds as observe-kinds
use Rattle.scan_pair_calls.proofs.observe.Reads as observe-reads
use Rattle.scan_pair_calls.proofs.rearm.Kinds as rearm-kinds
use Rattle.scan_pair_calls.proofs.rearm.Reads as rearm-reads
use Rattle.scan_pair_calls.proofs.discard_near.Kinds as discard-near-kinds
use Rattle.scan_pair_calls.proofs.discard_near.Reads as discard-near-reads
use Rattle.scan_pair_calls.proofs.reset.Kinds as reset-kinds
use Rattle.scan_pair_calls.proofs.reset.Reads as reset-reads
use Rattle.scan_pair_calls.proofs.new.Kinds as new-kinds
use Rattle.scan_pair_calls.proofs.new.Reads as new-reads
use Rattle.scan_pair_calls.proofs.reports.region.Kinds as region-kinds
use Rattle.scan_pair_calls.proofs.reports.region.Reads as region-reads
use Rattle.scan_pair_calls.proofs.reports.beyond_ceiling.Kinds as beyond-ceiling-kinds
use Rattle.scan_pair_calls.proofs.reports.beyond_ceiling.Reads as beyond-ceiling-reads
use Rattle.scan_pair_calls.proofs.reports.frames.Kinds as frames-kinds
use Rattle.scan_pair_calls.proofs.reports.frames.Reads as frames-reads
use Rattle.scan_pair_calls.proofs.reports.correlation.Kinds as correlation-kinds
use Rattle.scan_pair_calls.proofs.reports.correlation.Reads as correlation-reads
use Rattle.scan_pair_calls.proofs.reports.finished.Kinds as finished-kinds
use Rattle.scan_pair_calls.proofs.reports.finished.Reads as finished-reads
use Rattle.scan_pair_calls.proofs.reports.exhausted.Kinds as exhausted-kinds
use Rattle.scan_pair_calls.proofs.reports.exhausted.Reads as exhausted-reads
use Rattle.scan_pair_calls.proofs.reports.bin_samples.Kinds as bin-samples-kinds
use Rattle.scan_pair_calls.proofs.reports.bin_samples.Reads as bin-samples-reads
use Rattle.scan_pair_calls.proofs.reports.ceiling_samples.Kinds as ceiling-samples-kinds
use Rattle.scan_pair_calls.proofs.reports.ceiling_samples.Reads as ceiling-samples-reads

pub push_far_steps : (f : Return 2 push-far-kinds.ps push-far-kinds.r push-far-reads.Post) (w : PairWorld) → w.pair ≡ f.given.0 → w.buffers.envelope ≡ f.given.1.0.now
    → pair_step (changes f.result.answer) f.result.pair (with_pair_envelope w.buffers f.left.1.0.now) ≡ pair_called full_slack w (far f.given.1.1.0.now)
unfolding pair_called
push_far_steps f w s e =
    let a = f.admitted.0 ∙ (λ i. (pair_far full_slack (sym s i) (sym e i) f.given.1.1.0.now).changed) in
    let b = f.admitted.1 ∙ (λ i. (pair_far full_slack (sym s i) (sym e i) f.given.1.1.0.now).envelope) in
    λ i. pair_step (changes (a i).answer) (a i).pair (with_pair_envelope w.buffers (b i))

pub push_near_steps : (f : Return 1 push-near-kinds.ps push-near-kinds.r push-near-reads.Post) (w : PairWorld) → w.pair ≡ f.given.0 → (lent_to w.buffers (named f.given.1.0)).levels ≡ f.given.1.1.0.now
    → pair_step (takes f.result.answer) f.result.pair (handed_back w.buffers (named f.given.1.0) (with_levels (lent_to w.buffers (named f.given.1.0)) f.left.1.1.0.now)) ≡ pair_called full_slack w (on f.given.1.0 (near f.given.1.1.1.0 f.given.1.1.1.1.0))
unfolding pair_called own_called
push_near_steps f w s e =
    let a = f.admitted.0 ∙ (λ i. (pair_near (sym s i) (named f.given.1.0) (sym e i) f.given.1.1.1.0 f.given.1.1.1.1.0).took) in
    let b = f.admitted.1 ∙ (λ i. (pair_near (sym s i) (named f.given.1.0) (sym e i) f.given.1.1.1.0 f.given.1.1.1.1.0).levels) in
    λ i. pair_step (takes (a i).answer) (a i).pair (handed_back w.buffers (named f.given.1.0) (with_levels (lent_to w.buffers (named f.given.1.0)) (b i)))

pub observe_steps : (f : Return 7 observe-kinds.ps observe-kinds.r observe-reads.Post) (w : PairWorld) → w.pair ≡ f.given.0 → lent_to w.buffers (named f.given.1.0) ≡ lent f.given.1.1.0.now f.given.1.1.1.0.now f.given.1.1.1.1.0.now f.given.1.1.1.1.1.0.now f.given.1.1.1.1.1.1.0.now f.given.1.1.1.1.1.1.1.0.now f.given.1.1.1.1.1.1.1.1.0.now
    → pair_step (scores f.result.answer) f.result.pair (handed_back w.buffers (named f.given.1.0) (lent f.given.1.1.0.now f.given.1.1.1.0.now f.left.1.1.1.1.0.now f.left.1.1.1.1.1.0.now f.left.1.1.1.1.1.1.0.now f.left.1.1.1.1.1.1.1.0.now f.left.1.1.1.1.1.1.1.1.0.now)) ≡ pair_called full_slack w (on f.given.1.0 score)
unfolding pair_called own_called
observe_steps f w s e =
    let o = f.admitted ∙ (λ i. pair_observed full_slack (sym s i) (named f.given.1.0) (sym e i)) in
    λ i. pair_step (scores (o i).scored.answer) (o i).scored.pair (handed_back w.buffers (named f.given.1.0) (o i).buffers)

pub rearm_steps : (f : Return 1 rearm-kinds.ps rearm-kinds.r rearm-reads.Post) (w : PairWorld) → w.pair ≡ f.given.0 → (lent_to w.buffers (named f.given.1.0)).lag_sums ≡ f.given.1.1.0.now
    → pair_step (changes f.result.answer) f.result.pair (handed_back w.buffers (named f.given.1.0) (with_lag_sums (lent_to w.buffers (named f.given.1.0)) f.left.1.1.0.now)) ≡ pair_called full_slack w (on f.given.1.0 rearm)
unfolding pair_called own_called
rearm_steps f w s e =
    let a = f.admitted.0 ∙ (λ i. (pair_rearmed (sym s i) (named f.given.1.0) (sym e i)).changed) in
    let b = f.admitted.1 ∙ (λ i. (pair_rearmed (sym s i) (named f.given.1.0) (sym e i)).lag_sums) in
    λ i. pair_step (changes (a i).answer) (a i).pair (handed_back w.buffers (named f.given.1.0) (with_lag_sums (lent_to w.buffers (named f.given.1.0)) (b i)))

pub discard_near_steps : (f : Return 1 discard-near-kinds.ps discard-near-kinds.r discard-near-reads.Post) (w : PairWorld) → w.pair ≡ f.given.0 → (lent_to w.buffers (named f.given.1.0)).lag_sums ≡ f.given.1.1.0.now
    → pair_step (changes f.result.answer) f.result.pair (handed_back w.buffers (named f.given.1.0) (with_lag_sums (lent_to w.buffers (named f.given.1.0)) f.left.1.1.0.now)) ≡ pair_called full_slack w (on f.given.1.0 discard)
unfolding pair_called own_called
discard_near_steps f w s e =
    let a = f.admitted.0 ∙ (λ i. (pair_discarded (sym s i) (named f.given.1.0) (sym e i)).changed) in
    let b = f.admitted.1 ∙ (λ i. (pair_discarded (sym s i) (named f.given.1.0) (sym e i)).lag_sums) in
    λ i. pair_step (changes (a i).answer) (a i).pair (handed_back w.buffers (named f.given.1.0) (with_lag_sums (lent_to w.buffers (named f.given.1.0)) (b i)))

pub reset_steps : (f : Return 3 reset-kinds.ps reset-kinds.r reset-reads.Post) (w : PairWorld) → w.pair ≡ f.given.0 → w.buffers.envelope ≡ f.given.1.0.now → w.buffers.first.lag_sums ≡ f.given.1.1.0.now → w.buffers.second.lag_sums ≡ f.given.1.1.1.0.now
    → restart_step w.buffers (record { changed = f.result; envelope = f.left.1.0.now; first_sums = f.left.1.1.0.now; second_sums = f.left.1.1.1.0.now }) ≡ pair_called full_slack w (reset)
unfolding pair_called
reset_steps f w s e l m =
    let a = f.admitted.0 ∙ (λ i. (pair_reset full_slack (sym s i) (sym e i) (sym l i) (sym m i)).changed) in
    let b = f.admitted.1.0 ∙ (λ i. (pair_reset full_slack (sym s i) (sym e i) (sym l i) (sym m i)).envelope) in
    let c = f.admitted.1.1.0 ∙ (λ i. (pair_reset full_slack (sym s i) (sym e i) (sym l i) (sym m i)).first_sums) in
    let d = f.admitted.1.1.1 ∙ (λ i. (pair_reset full_slack (sym s i) (sym e i) (sym l i) (sym m i)).second_sums) in
    λ i. restart_step w.buffers (record { changed = a i; envelope = b i; first_sums = c i; second_sums = d i })

pub new_steps : (f : Return 3 new-kinds.ps new-kinds.r new-reads.Post) (b : PairBuffers) → b.envelope ≡ f.given.1.1.0.now → b.first.lag_sums ≡ f.given.1.1.1.0.now → b.second.lag_sums ≡ f.given.1.1.1.1.0.now
    → restart_step b (record { changed = f.result; envelope = f.left.1.1.0.now; first_sums = f.left.1.1.1.0.now; second_sums = f.left.1.1.1.1.0.now }) ≡ pair_making full_slack f.given.0 f.given.1.0 b
unfolding pair_making
new_steps f b e l m =
    let a = f.admitted.0 ∙ (λ i. (pair_made full_slack f.given.0 f.given.1.0 (sym e i) (sym l i) (sym m i)).changed) in
    let z = f.admitted.1.0 ∙ (λ i. (pair_made full_slack f.given.0 f.given.1.0 (sym e i) (sym l i) (sym m i)).envelope) in
    let c = f.admitted.1.1.0 ∙ (λ i. (pair_made full_slack f.given.0 f.given.1.0 (sym e i) (sym l i) (sym m i)).first_sums) in
    let d = f.admitted.1.1.1 ∙ (λ i. (pair_made full_slack f.given.0 f.given.1.0 (sym e i) (sym l i) (sym m i)).second_sums) in
    λ i. restart_step b (record { changed = a i; envelope = z i; first_sums = c i; second_sums = d i })

pub region_steps : (f : Return 0 region-kinds.ps region-kinds.r region-reads.Post) (w : PairWorld) → w.pair ≡ f.given.0
    → pair_step (reports_region f.result) w.pair w.buffers ≡ pair_called full_slack w (on f.given.1.0 (ask region))
unfolding pair_called own_called
region_steps f w s =
    let a = f.admitted ∙ (λ i. pair_region (sym s i) (named f.given.1.0)) in
    λ i. pair_step (reports_region (a i)) w.pair w.buffers

pub beyond_ceiling_steps : (f : Return 0 beyond-ceiling-kinds.ps beyond-ceiling-kinds.r beyond-ceiling-reads.Post) (w : PairWorld) → w.pair ≡ f.given.0
    → pair_step (reports_flag f.result) w.pair w.buffers ≡ pair_called full_slack w (on f.given.1.0 (ask beyond_ceiling_report))
unfolding pair_called own_called
beyond_ceiling_steps f w s =
    let a = f.admitted ∙ (λ i. pair_beyond_ceiling (sym s i) (named f.given.1.0)) in
    λ i. pair_step (reports_flag (a i)) w.pair w.buffers

pub frames_steps : (f : Return 0 frames-kinds.ps frames-kinds.r frames-reads.Post) (w : PairWorld) → w.pair ≡ f.given.0
    → pair_step (reports_count f.result) w.pair w.buffers ≡ pair_called full_slack w (on f.given.1.0 (ask frames))
unfolding pair_called own_called
frames_steps f w s =
    let a = f.admitted ∙ (λ i. pair_frames (sym s i) (named f.given.1.0)) in
    λ i. pair_step (reports_count (a i)) w.pair w.buffers

pub correlation_steps : (f : Return 0 correlation-kinds.ps correlation-kinds.r correlation-reads.Post) (w : PairWorld) → w.pair ≡ f.given.0
    → pair_step (reports_level f.result) w.pair w.buffers ≡ pair_called full_slack w (on f.given.1.0 (ask correlation))
unfolding pair_called own_called
correlation_steps f w s =
    let a = f.admitted ∙ (λ i. pair_correlation (sym s i) (named f.given.1.0)) in
    λ i. pair_step (reports_level (a i)) w.pair w.buffers

pub finished_steps : (f : Return 0 finished-kinds.ps finished-kinds.r finished-reads.Post) (w : PairWorld) → w.pair ≡ f.given.0
    → pair_step (reports_flag f.result) w.pair w.buffers ≡ pair_called full_slack w (on f.given.1.0 (ask finished))
unfolding pair_called own_called
finished_steps f w s =
    let a = f.admitted ∙ (λ i. pair_finished (sym s i) (named f.given.1.0)) in
    λ i. pair_step (reports_flag (a i)) w.pair w.buffers

pub exhausted_steps : (f : Return 0 exhausted-kinds.ps exhausted-kinds.r exhausted-reads.Post) (w : PairWorld) → w.pair ≡ f.given.0
    → pair_step (reports_flag f.result) w.pair w.buffers ≡ pair_called full_slack w (on f.given.1.0 (ask exhausted))
unfolding pair_called own_called
exhausted_steps f w s =
    let a = f.admitted ∙ (λ i. pair_exhausted (sym s i) (named f.given.1.0)) in
    λ i. pair_step (reports_flag (a i)) w.pair w.buffers

pub bin_samples_steps : (f : Return 0 bin-samples-kinds.ps bin-samples-kinds.r bin-samples-reads.Post) (w : PairWorld) → w.pair ≡ f.given.0
    → pair_step (reports_samples f.result) w.pair w.buffers ≡ pair_called full_slack w (settings bin_samples_report)
unfolding pair_called
bin_samples_steps f w s =
    let a = f.admitted ∙ (λ i. pair_bin_samples (sym s i)) in
    λ i. pair_step (reports_samples (a i)) w.pair w.buffers

pub ceiling_samples_steps : (f : Return 0 ceiling-samples-kinds.ps ceiling-samples-kinds.r ceiling-samples-reads.Post) (w : PairWorld) → w.pair ≡ f.given.0
    → pair_step (reports_samples f.result) w.pair w.buffers ≡ pair_called full_slack w (settings ceiling_samples_report)
unfolding pair_called
ceiling_samples_steps f w s =
    let a = f.admitted ∙ (λ i. pair_ceiling_samples (sym s i)) in
    λ i. pair_step (reports_samples (a i)) w.pair w.buffers

-- Every call of the profile: its contract admits one result, and one list in each lent buffer.
use contract.Lifetimes.{Lfts}
use denote.Triple.Clauses.{AtExit}
use borrow.Fn.Kinds.{Dens, res_t, ended_of}
use Rattle.answers.specs.Once.{Determined}
use Rattle.answers.proofs.Once.{once}
use mathlib.Core.Path.{◌≡◌, ap}
use Rattle.scan.specs.Calls.{Observation}
use Rattle.scan_panel_calls.proofs.new.Kinds as new-kinds
use Rattle.scan_panel_calls.proofs.new.Reads as new-reads
use Rattle.scan_panel_calls.proofs.reset.Kinds as reset-kinds
use Rattle.scan_panel_calls.proofs.reset.Reads as reset-reads
use Rattle.scan_panel_calls.proofs.rearm.Kinds as rearm-kinds
use Rattle.scan_panel_calls.proofs.rearm.Reads as rearm-reads
use Rattle.scan_panel_calls.proofs.discard_near.Kinds as discard-near-kinds
use Rattle.scan_panel_calls.proofs.discard_near.Reads as discard-near-reads
use Rattle.scan_panel_calls.proofs.reports.bin_samples.Kinds as bin-samples-kinds
use Rattle.scan_panel_calls.proofs.reports.bin_samples.Reads as bin-samples-reads
use Rattle.scan_panel_calls.proofs.reports.ceiling_samples.Kinds as ceiling-samples-kinds
use Rattle.scan_panel_calls.proofs.reports.ceiling_samples.Reads as ceiling-samples-reads
use Rattle.scan_panel_calls.proofs.reports.region.Kinds as region-kinds
use Rattle.scan_panel_calls.proofs.reports.region.Reads as region-reads
use Rattle.scan_panel_calls.proofs.reports.beyond_ceiling.Kinds as beyond-ceiling-kinds
use Rattle.scan_panel_calls.proofs.reports.beyond_ceiling.Reads as beyond-ceiling-reads
use Rattle.scan_panel_calls.proofs.reports.frames.Kinds as frames-kinds
use Rattle.scan_panel_calls.proofs.reports.frames.Reads as frames-reads
use Rattle.scan_panel_calls.proofs.reports.correlation.Kinds as correlation-kinds
use Rattle.scan_panel_calls.proofs.reports.correlation.Reads as correlation-reads
use Rattle.scan_panel_calls.proofs.reports.finished.Kinds as finished-kinds
use Rattle.scan_panel_calls.proofs.reports.finished.Reads as finished-reads
use Rattle.scan_panel_calls.proofs.reports.exhausted.Kinds as exhausted-kinds
use Rattle.scan_panel_calls.proofs.reports.exhausted.Reads as exhausted-reads
use Rattle.scan_panel_calls.proofs.push_far.Kinds as push-far-kinds
use Rattle.scan_panel_calls.proofs.push_far.Reads as push-far-reads
use Rattle.scan_panel_calls.proofs.push_near.Kinds as push-near-kinds
use Rattle.scan_panel_calls.proofs.push_near.Reads as push-near-reads
use Rattle.scan_panel_calls.proofs.push_near_run.Kinds as push-near-run-kinds
use Rattle.scan_panel_calls.proofs.push_near_run.Reads as push-near-run-reads
use Rattle.scan_panel_calls.proofs.observe.Kinds as observe-kinds
use Rattle.scan_panel_calls.proofs.observe.Reads as observe-reads

pub new_once : Determined 2 new-kinds.ps new-kinds.r new-reads.Post
new_once κs a v w x y p q = once p.0 q.0

pub new_envelope_once : (κs : Lfts 2) (a : Dens κs new-kinds.ps) (v w : (res_t new-kinds.r κs).Denot) (x y : AtExit (ended_of 2 new-kinds.ps new-kinds.r) κs)
    → new-reads.Post κs a v x → new-reads.Post κs a w y → x.1.1.0.now ≡ y.1.1.0.now
new_envelope_once κs a v w x y p q = once p.1.0 q.1.0

pub new_lag_sums_once : (κs : Lfts 2) (a : Dens κs new-kinds.ps) (v w : (res_t new-kinds.r κs).Denot) (x y : AtExit (ended_of 2 new-kinds.ps new-kinds.r) κs)
    → new-reads.Post κs a v x → new-reads.Post κs a w y → x.1.1.1.0.now ≡ y.1.1.1.0.now
new_lag_sums_once κs a v w x y p q = once p.1.1 q.1.1

pub reset_once : Determined 2 reset-kinds.ps reset-kinds.r reset-reads.Post
reset_once κs a v w x y p q = once p.0 q.0

pub reset_envelope_once : (κs : Lfts 2) (a : Dens κs reset-kinds.ps) (v w : (res_t reset-kinds.r κs).Denot) (x y : AtExit (ended_of 2 reset-kinds.ps reset-kinds.r) κs)
    → reset-reads.Post κs a v x → reset-reads.Post κs a w y → x.1.0.now ≡ y.1.0.now
reset_envelope_once κs a v w x y p q = once p.1.0 q.1.0

pub reset_lag_sums_once : (κs : Lfts 2) (a : Dens κs reset-kinds.ps) (v w : (res_t reset-kinds.r κs).Denot) (x y : AtExit (ended_of 2 reset-kinds.ps reset-kinds.r) κs)
    → reset-reads.Post κs a v x → reset-reads.Post κs a w y → x.1.1.0.now ≡ y.1.1.0.now
reset_lag_sums_once κs a v w x y p q = once p.1.1 q.1.1

pub rearm_once : Determined 1 rearm-kinds.ps rearm-kinds.r rearm-reads.Post
rearm_once κs a v w x y p q = once p.0 q.0

pub rearm_lag_sums_once : (κs : Lfts 1) (a : Dens κs rearm-kinds.ps) (v w : (res_t rearm-kinds.r κs).Denot) (x y : AtExit (ended_of 1 rearm-kinds.ps rearm-kinds.r) κs)
    → rearm-reads.Post κs a v x → rearm-reads.Post κs a w y → x.1.0.now ≡ y.1.0.now
rearm_lag_sums_once κs a v w x y p q = once p.1 q.1

pub discard_near_once : Determined 1 discard-near-kinds.ps discard-near-kinds.r discard-near-reads.Post
discard_near_once κs a v w x y p q = once p.0 q.0

pub discard_near_lag_sums_once : (κs : Lfts 1) (a : Dens κs discard-near-kinds.ps) (v w : (res_t discard-near-kinds.r κs).Denot) (x y : AtExit (ended_of 1 discard-near-kinds.ps discard-near-kinds.r) κs)
    → discard-near-reads.Post κs a v x → discard-near-reads.Post κs a w y → x.1.0.now ≡ y.1.0.now
discard_near_lag_sums_once κs a v w x y p q = once p.1 q.1

pub bin_samples_once : Determined 0 bin-samples-kinds.ps bin-samples-kinds.r bin-samples-reads.Post
bin_samples_once κs a v w x y p q = once p q

pub ceiling_samples_once : Determined 0 ceiling-samples-kinds.ps ceiling-samples-kinds.r ceiling-samples-reads.Post
ceiling_samples_once κs a v w x y p q = once p q

pub region_once : Determined 0 region-kinds.ps region-kinds.r region-reads.Post
region_once κs a v w x y p q = once p q

pub beyond_ceiling_once : Determined 0 beyond-ceiling-kinds.ps beyond-ceiling-kinds.r beyond-ceiling-reads.Post
beyond_ceiling_once κs a v w x y p q = once p q

pub frames_once : Determined 0 frames-kinds.ps frames-kinds.r frames-reads.Post
frames_once κs a v w x y p q = once p q

pub correlation_once : Determined 0 correlation-kinds.ps correlation-kinds.r correlation-reads.Post
correlation_once κs a v w x y p q = once p q

pub finished_once : Determined 0 finished-kinds.ps finished-kinds.r finished-reads.Post
finished_once κs a v w x y p q = once p q

pub exhausted_once : Determined 0 exhausted-kinds.ps exhausted-kinds.r exhausted-reads.Post
exhausted_once κs a v w x y p q = once p q

pub push_far_once : Determined 2 push-far-kinds.ps push-far-kinds.r push-far-reads.Post
push_far_once κs a v w x y p q = once p.0 q.0

pub push_far_envelope_once : (κs : Lfts 2) (a : Dens κs push-far-kinds.ps) (v w : (res_t push-far-kinds.r κs).Denot) (x y : AtExit (ended_of 2 push-far-kinds.ps push-far-kinds.r) κs)
    → push-far-reads.Post κs a v x → push-far-reads.Post κs a w y → x.1.0.now ≡ y.1.0.now
push_far_envelope_once κs a v w x y p q = once p.1 q.1

pub push_near_once : Determined 1 push-near-kinds.ps push-near-kinds.r push-near-reads.Post
push_near_once κs a v w x y p q = once p.0 q.0

pub push_near_levels_once : (κs : Lfts 1) (a : Dens κs push-near-kinds.ps) (v w : (res_t push-near-kinds.r κs).Denot) (x y : AtExit (ended_of 1 push-near-kinds.ps push-near-kinds.r) κs)
    → push-near-reads.Post κs a v x → push-near-reads.Post κs a w y → x.1.0.now ≡ y.1.0.now
push_near_levels_once κs a v w x y p q = once p.1 q.1

pub push_near_run_once : Determined 2 push-near-run-kinds.ps push-near-run-kinds.r push-near-run-reads.Post
push_near_run_once κs a v w x y p q = once p.0 q.0

pub push_near_run_levels_once : (κs : Lfts 2) (a : Dens κs push-near-run-kinds.ps) (v w : (res_t push-near-run-kinds.r κs).Denot) (x y : AtExit (ended_of 2 push-near-run-kinds.ps push-near-run-kinds.r) κs)
    → push-near-run-reads.Post κs a v x → push-near-run-reads.Post κs a w y → x.1.0.now ≡ y.1.0.now
push_near_run_levels_once κs a v w x y p q = once p.1 q.1

pub observe_once : Determined 7 observe-kinds.ps observe-kinds.r observe-reads.Post
observe_once κs a v w x y p q = ap (λ (o : Observation). o.scored) (once p q)

-- window, prefix, squares, scores and lag sums
pub observe_leaves_once : (κs : Lfts 7) (a : Dens κs observe-kinds.ps) (v w : (res_t observe-kinds.r κs).Denot) (x y : AtExit (ended_of 7 observe-kinds.ps observe-kinds.r) κs)
    → observe-reads.Post κs a v x → observe-reads.Post κs a w y
    → (x.1.1.1.0.now ≡ y.1.1.1.0.now) ×
    (x.1.1.1.1.0.now ≡ y.1.1.1.1.0.now) ×
    (x.1.1.1.1.1.0.now ≡ y.1.1.1.1.1.0.now) ×
    (x.1.1.1.1.1.1.0.now ≡ y.1.1.1.1.1.1.0.now) ×
    (x.1.1.1.1.1.1.1.0.now ≡ y.1.1.1.1.1.1.1.0.now)
observe_leaves_once κs a v w x y p q = (
  ap (λ (o : Observation). o.buffers.window) (once p q),
  ap (λ (o : Observation). o.buffers.prefix) (once p q),
  ap (λ (o : Observation). o.buffers.squares) (once p q),
  ap (λ (o : Observation). o.buffers.scores) (once p q),
  ap (λ (o : Observation). o.buffers.lag_sums) (once p q),
)

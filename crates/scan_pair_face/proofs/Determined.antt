-- Every call of the pair: its contract admits one answer, and one list in each place that it is lent.
use mathlib.Core.Path.{◌≡◌, ap}
use contract.Lifetimes.{Lfts}
use denote.Triple.Clauses.{AtExit}
use borrow.Fn.Kinds.{Dens, res_t, ended_of}
use Rattle.answers.specs.Once.{Determined}
use Rattle.answers.proofs.Once.{once}
use Rattle.scan.specs.State.{Buffers}
use Rattle.scan_pair_face.specs.Calls.{PairHistory}
use Rattle.scan_pair_face.proofs.tmv_pair_words.Kinds as words-kinds
use Rattle.scan_pair_face.proofs.tmv_pair_words.Reads as words-reads
use Rattle.scan_pair_face.proofs.tmv_pair_new.Kinds as new-kinds
use Rattle.scan_pair_face.proofs.tmv_pair_new.Reads as new-reads
use Rattle.scan_pair_face.proofs.tmv_pair_reset.Kinds as reset-kinds
use Rattle.scan_pair_face.proofs.tmv_pair_reset.Reads as reset-reads
use Rattle.scan_pair_face.proofs.tmv_pair_push_far.Kinds as push-far-kinds
use Rattle.scan_pair_face.proofs.tmv_pair_push_far.Reads as push-far-reads
use Rattle.scan_pair_face.proofs.tmv_pair_push_near.Kinds as push-near-kinds
use Rattle.scan_pair_face.proofs.tmv_pair_push_near.Reads as push-near-reads
use Rattle.scan_pair_face.proofs.tmv_pair_push_near_run.Kinds as push-near-run-kinds
use Rattle.scan_pair_face.proofs.tmv_pair_push_near_run.Reads as push-near-run-reads
use Rattle.scan_pair_face.proofs.tmv_pair_observe.Kinds as observe-kinds
use Rattle.scan_pair_face.proofs.tmv_pair_observe.Reads as observe-reads
use Rattle.scan_pair_face.proofs.tmv_pair_rearm.Kinds as rearm-kinds
use Rattle.scan_pair_face.proofs.tmv_pair_rearm.Reads as rearm-reads
use Rattle.scan_pair_face.proofs.tmv_pair_discard_near.Kinds as discard-near-kinds
use Rattle.scan_pair_face.proofs.tmv_pair_discard_near.Reads as discard-near-reads
use Rattle.scan_pair_face.proofs.tmv_pair_bin_samples.Kinds as bin-samples-kinds
use Rattle.scan_pair_face.proofs.tmv_pair_bin_samples.Reads as bin-samples-reads
use Rattle.scan_pair_face.proofs.tmv_pair_ceiling_samples.Kinds as ceiling-samples-kinds
use Rattle.scan_pair_face.proofs.tmv_pair_ceiling_samples.Reads as ceiling-samples-reads
use Rattle.scan_pair_face.proofs.tmv_pair_frames.Kinds as frames-kinds
use Rattle.scan_pair_face.proofs.tmv_pair_frames.Reads as frames-reads
use Rattle.scan_pair_face.proofs.tmv_pair_correlation.Kinds as correlation-kinds
use Rattle.scan_pair_face.proofs.tmv_pair_correlation.Reads as correlation-reads
use Rattle.scan_pair_face.proofs.tmv_pair_region.Kinds as region-kinds
use Rattle.scan_pair_face.proofs.tmv_pair_region.Reads as region-reads
use Rattle.scan_pair_face.proofs.tmv_pair_beyond_ceiling.Kinds as beyond-ceiling-kinds
use Rattle.scan_pair_face.proofs.tmv_pair_beyond_ceiling.Reads as beyond-ceiling-reads
use Rattle.scan_pair_face.proofs.tmv_pair_finished.Kinds as finished-kinds
use Rattle.scan_pair_face.proofs.tmv_pair_finished.Reads as finished-reads
use Rattle.scan_pair_face.proofs.tmv_pair_exhausted.Kinds as exhausted-kinds
use Rattle.scan_pair_face.proofs.tmv_pair_exhausted.Reads as exhausted-reads

pub pair_words_once : Determined 0 words-kinds.ps words-kinds.r words-reads.Post
pair_words_once κs a v w x y p q = once p q

pub pair_new_once : Determined 4 new-kinds.ps new-kinds.r new-reads.Post
pair_new_once κs a v w x y p q = once p.0 q.0

pub pair_new_leaves_once : (κs : Lfts 4) (a : Dens κs new-kinds.ps) (v w : (res_t new-kinds.r κs).Denot) (x y : AtExit (ended_of 4 new-kinds.ps new-kinds.r) κs)
    → new-reads.Post κs a v x → new-reads.Post κs a w y
    → (x.0.now ≡ y.0.now) ×
    (x.1.0.now ≡ y.1.0.now) ×
    (x.1.1.0.now ≡ y.1.1.0.now) ×
    (x.1.1.1.0.now ≡ y.1.1.1.0.now)
pair_new_leaves_once κs a v w x y p q = (
  once p.1.0 q.1.0,
  ap (λ (h : PairHistory). h.envelope) (once p.1.1 q.1.1),
  ap (λ (h : PairHistory). h.first_sums) (once p.1.1 q.1.1),
  ap (λ (h : PairHistory). h.second_sums) (once p.1.1 q.1.1),
)

pub pair_reset_once : Determined 4 reset-kinds.ps reset-kinds.r reset-reads.Post
pair_reset_once κs a v w x y p q = once p.0 q.0

pub pair_reset_leaves_once : (κs : Lfts 4) (a : Dens κs reset-kinds.ps) (v w : (res_t reset-kinds.r κs).Denot) (x y : AtExit (ended_of 4 reset-kinds.ps reset-kinds.r) κs)
    → reset-reads.Post κs a v x → reset-reads.Post κs a w y
    → (x.0.now ≡ y.0.now) ×
    (x.1.0.now ≡ y.1.0.now) ×
    (x.1.1.0.now ≡ y.1.1.0.now) ×
    (x.1.1.1.0.now ≡ y.1.1.1.0.now)
pair_reset_leaves_once κs a v w x y p q = (
  once p.1.0 q.1.0,
  ap (λ (h : PairHistory). h.envelope) (once p.1.1 q.1.1),
  ap (λ (h : PairHistory). h.first_sums) (once p.1.1 q.1.1),
  ap (λ (h : PairHistory). h.second_sums) (once p.1.1 q.1.1),
)

pub pair_push_far_once : Determined 3 push-far-kinds.ps push-far-kinds.r push-far-reads.Post
pair_push_far_once κs a v w x y p q = once p.0 q.0

pub pair_push_far_leaves_once : (κs : Lfts 3) (a : Dens κs push-far-kinds.ps) (v w : (res_t push-far-kinds.r κs).Denot) (x y : AtExit (ended_of 3 push-far-kinds.ps push-far-kinds.r) κs)
    → push-far-reads.Post κs a v x → push-far-reads.Post κs a w y
    → (x.0.now ≡ y.0.now) ×
    (x.1.0.now ≡ y.1.0.now)
pair_push_far_leaves_once κs a v w x y p q = (
  once p.1.0 q.1.0,
  once p.1.1 q.1.1,
)

pub pair_push_near_once : Determined 2 push-near-kinds.ps push-near-kinds.r push-near-reads.Post
pair_push_near_once κs a v w x y p q = once p.0 q.0

pub pair_push_near_leaves_once : (κs : Lfts 2) (a : Dens κs push-near-kinds.ps) (v w : (res_t push-near-kinds.r κs).Denot) (x y : AtExit (ended_of 2 push-near-kinds.ps push-near-kinds.r) κs)
    → push-near-reads.Post κs a v x → push-near-reads.Post κs a w y
    → (x.0.now ≡ y.0.now) ×
    (x.1.1.0.now ≡ y.1.1.0.now)
pair_push_near_leaves_once κs a v w x y p q = (
  once p.1.0 q.1.0,
  once p.1.1 q.1.1,
)

pub pair_push_near_run_once : Determined 4 push-near-run-kinds.ps push-near-run-kinds.r push-near-run-reads.Post
pair_push_near_run_once κs a v w x y p q = once p.0 q.0

pub pair_push_near_run_leaves_once : (κs : Lfts 4) (a : Dens κs push-near-run-kinds.ps) (v w : (res_t push-near-run-kinds.r κs).Denot) (x y : AtExit (ended_of 4 push-near-run-kinds.ps push-near-run-kinds.r) κs)
    → push-near-run-reads.Post κs a v x → push-near-run-reads.Post κs a w y
    → (x.0.now ≡ y.0.now) ×
    (x.1.1.0.now ≡ y.1.1.0.now) ×
    (x.1.1.1.1.1.0.now ≡ y.1.1.1.1.1.0.now)
pair_push_near_run_leaves_once κs a v w x y p q = (
  once p.1.0 q.1.0,
  once p.1.1.0 q.1.1.0,
  once p.1.1.1 q.1.1.1,
)

pub pair_observe_once : Determined 9 observe-kinds.ps observe-kinds.r observe-reads.Post
pair_observe_once κs a v w x y p q = once p.0 q.0

pub pair_observe_leaves_once : (κs : Lfts 9) (a : Dens κs observe-kinds.ps) (v w : (res_t observe-kinds.r κs).Denot) (x y : AtExit (ended_of 9 observe-kinds.ps observe-kinds.r) κs)
    → observe-reads.Post κs a v x → observe-reads.Post κs a w y
    → (x.0.now ≡ y.0.now) ×
    (x.1.1.1.1.0.now ≡ y.1.1.1.1.0.now) ×
    (x.1.1.1.1.1.0.now ≡ y.1.1.1.1.1.0.now) ×
    (x.1.1.1.1.1.1.0.now ≡ y.1.1.1.1.1.1.0.now) ×
    (x.1.1.1.1.1.1.1.0.now ≡ y.1.1.1.1.1.1.1.0.now) ×
    (x.1.1.1.1.1.1.1.1.0.now ≡ y.1.1.1.1.1.1.1.1.0.now) ×
    (x.1.1.1.1.1.1.1.1.1.0.now ≡ y.1.1.1.1.1.1.1.1.1.0.now)
pair_observe_leaves_once κs a v w x y p q = (
  once p.1.0 q.1.0,
  ap (λ (b : Buffers). b.window) (once p.1.1.0 q.1.1.0),
  ap (λ (b : Buffers). b.prefix) (once p.1.1.0 q.1.1.0),
  ap (λ (b : Buffers). b.squares) (once p.1.1.0 q.1.1.0),
  ap (λ (b : Buffers). b.scores) (once p.1.1.0 q.1.1.0),
  ap (λ (b : Buffers). b.lag_sums) (once p.1.1.0 q.1.1.0),
  once p.1.1.1 q.1.1.1,
)

pub pair_rearm_once : Determined 2 rearm-kinds.ps rearm-kinds.r rearm-reads.Post
pair_rearm_once κs a v w x y p q = once p.0 q.0

pub pair_rearm_leaves_once : (κs : Lfts 2) (a : Dens κs rearm-kinds.ps) (v w : (res_t rearm-kinds.r κs).Denot) (x y : AtExit (ended_of 2 rearm-kinds.ps rearm-kinds.r) κs)
    → rearm-reads.Post κs a v x → rearm-reads.Post κs a w y
    → (x.0.now ≡ y.0.now) ×
    (x.1.1.0.now ≡ y.1.1.0.now)
pair_rearm_leaves_once κs a v w x y p q = (
  once p.1.0 q.1.0,
  once p.1.1 q.1.1,
)

pub pair_discard_near_once : Determined 2 discard-near-kinds.ps discard-near-kinds.r discard-near-reads.Post
pair_discard_near_once κs a v w x y p q = once p.0 q.0

pub pair_discard_near_leaves_once : (κs : Lfts 2) (a : Dens κs discard-near-kinds.ps) (v w : (res_t discard-near-kinds.r κs).Denot) (x y : AtExit (ended_of 2 discard-near-kinds.ps discard-near-kinds.r) κs)
    → discard-near-reads.Post κs a v x → discard-near-reads.Post κs a w y
    → (x.0.now ≡ y.0.now) ×
    (x.1.1.0.now ≡ y.1.1.0.now)
pair_discard_near_leaves_once κs a v w x y p q = (
  once p.1.0 q.1.0,
  once p.1.1 q.1.1,
)

pub pair_bin_samples_once : Determined 2 bin-samples-kinds.ps bin-samples-kinds.r bin-samples-reads.Post
pair_bin_samples_once κs a v w x y p q = once p.0 q.0

pub pair_bin_samples_leaves_once : (κs : Lfts 2) (a : Dens κs bin-samples-kinds.ps) (v w : (res_t bin-samples-kinds.r κs).Denot) (x y : AtExit (ended_of 2 bin-samples-kinds.ps bin-samples-kinds.r) κs)
    → bin-samples-reads.Post κs a v x → bin-samples-reads.Post κs a w y
    → (x.1.0.now ≡ y.1.0.now)
pair_bin_samples_leaves_once κs a v w x y p q = once p.1 q.1

pub pair_ceiling_samples_once : Determined 2 ceiling-samples-kinds.ps ceiling-samples-kinds.r ceiling-samples-reads.Post
pair_ceiling_samples_once κs a v w x y p q = once p.0 q.0

pub pair_ceiling_samples_leaves_once : (κs : Lfts 2) (a : Dens κs ceiling-samples-kinds.ps) (v w : (res_t ceiling-samples-kinds.r κs).Denot) (x y : AtExit (ended_of 2 ceiling-samples-kinds.ps ceiling-samples-kinds.r) κs)
    → ceiling-samples-reads.Post κs a v x → ceiling-samples-reads.Post κs a w y
    → (x.1.0.now ≡ y.1.0.now)
pair_ceiling_samples_leaves_once κs a v w x y p q = once p.1 q.1

pub pair_frames_once : Determined 2 frames-kinds.ps frames-kinds.r frames-reads.Post
pair_frames_once κs a v w x y p q = once p.0 q.0

pub pair_frames_leaves_once : (κs : Lfts 2) (a : Dens κs frames-kinds.ps) (v w : (res_t frames-kinds.r κs).Denot) (x y : AtExit (ended_of 2 frames-kinds.ps frames-kinds.r) κs)
    → frames-reads.Post κs a v x → frames-reads.Post κs a w y
    → (x.1.1.0.now ≡ y.1.1.0.now)
pair_frames_leaves_once κs a v w x y p q = once p.1 q.1

pub pair_correlation_once : Determined 2 correlation-kinds.ps correlation-kinds.r correlation-reads.Post
pair_correlation_once κs a v w x y p q = once p.0 q.0

pub pair_correlation_leaves_once : (κs : Lfts 2) (a : Dens κs correlation-kinds.ps) (v w : (res_t correlation-kinds.r κs).Denot) (x y : AtExit (ended_of 2 correlation-kinds.ps correlation-kinds.r) κs)
    → correlation-reads.Post κs a v x → correlation-reads.Post κs a w y
    → (x.1.1.0.now ≡ y.1.1.0.now)
pair_correlation_leaves_once κs a v w x y p q = once p.1 q.1

pub pair_region_once : Determined 2 region-kinds.ps region-kinds.r region-reads.Post
pair_region_once κs a v w x y p q = once p.0 q.0

pub pair_region_leaves_once : (κs : Lfts 2) (a : Dens κs region-kinds.ps) (v w : (res_t region-kinds.r κs).Denot) (x y : AtExit (ended_of 2 region-kinds.ps region-kinds.r) κs)
    → region-reads.Post κs a v x → region-reads.Post κs a w y
    → (x.1.1.0.now ≡ y.1.1.0.now)
pair_region_leaves_once κs a v w x y p q = once p.1 q.1

pub pair_beyond_ceiling_once : Determined 1 beyond-ceiling-kinds.ps beyond-ceiling-kinds.r beyond-ceiling-reads.Post
pair_beyond_ceiling_once κs a v w x y p q = once p q

pub pair_finished_once : Determined 1 finished-kinds.ps finished-kinds.r finished-reads.Post
pair_finished_once κs a v w x y p q = once p q

pub pair_exhausted_once : Determined 1 exhausted-kinds.ps exhausted-kinds.r exhausted-reads.Post
pair_exhausted_once κs a v w x y p q = once p q

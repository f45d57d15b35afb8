-- Every call of the scan: its contract admits one answer, and one list in each place that it is lent.
use mathlib.Core.Path.{◌≡◌, ap}
use contract.Lifetimes.{Lfts}
use denote.Triple.Clauses.{AtExit}
use borrow.Fn.Kinds.{Dens, res_t, ended_of}
use Rattle.answers.specs.Once.{Determined}
use Rattle.answers.proofs.Once.{once}
use Rattle.scan.specs.State.{Buffers}
use Rattle.scan_face.specs.Calls.{History}
use Rattle.scan_face.proofs.tmv_scan_words.Kinds as words-kinds
use Rattle.scan_face.proofs.tmv_scan_words.Reads as words-reads
use Rattle.scan_face.proofs.tmv_scan_envelope_len.Kinds as envelope-len-kinds
use Rattle.scan_face.proofs.tmv_scan_envelope_len.Reads as envelope-len-reads
use Rattle.scan_face.proofs.tmv_scan_levels_len.Kinds as levels-len-kinds
use Rattle.scan_face.proofs.tmv_scan_levels_len.Reads as levels-len-reads
use Rattle.scan_face.proofs.tmv_scan_window_len.Kinds as window-len-kinds
use Rattle.scan_face.proofs.tmv_scan_window_len.Reads as window-len-reads
use Rattle.scan_face.proofs.tmv_scan_prefix_len.Kinds as prefix-len-kinds
use Rattle.scan_face.proofs.tmv_scan_prefix_len.Reads as prefix-len-reads
use Rattle.scan_face.proofs.tmv_scan_lags_len.Kinds as lags-len-kinds
use Rattle.scan_face.proofs.tmv_scan_lags_len.Reads as lags-len-reads
use Rattle.scan_face.proofs.tmv_scan_new.Kinds as new-kinds
use Rattle.scan_face.proofs.tmv_scan_new.Reads as new-reads
use Rattle.scan_face.proofs.tmv_scan_reset.Kinds as reset-kinds
use Rattle.scan_face.proofs.tmv_scan_reset.Reads as reset-reads
use Rattle.scan_face.proofs.tmv_scan_rearm.Kinds as rearm-kinds
use Rattle.scan_face.proofs.tmv_scan_rearm.Reads as rearm-reads
use Rattle.scan_face.proofs.tmv_scan_discard_near.Kinds as discard-near-kinds
use Rattle.scan_face.proofs.tmv_scan_discard_near.Reads as discard-near-reads
use Rattle.scan_face.proofs.tmv_scan_push_far.Kinds as push-far-kinds
use Rattle.scan_face.proofs.tmv_scan_push_far.Reads as push-far-reads
use Rattle.scan_face.proofs.tmv_scan_push_near.Kinds as push-near-kinds
use Rattle.scan_face.proofs.tmv_scan_push_near.Reads as push-near-reads
use Rattle.scan_face.proofs.tmv_scan_observe.Kinds as observe-kinds
use Rattle.scan_face.proofs.tmv_scan_observe.Reads as observe-reads
use Rattle.scan_face.proofs.tmv_scan_bin_samples.Kinds as bin-samples-kinds
use Rattle.scan_face.proofs.tmv_scan_bin_samples.Reads as bin-samples-reads
use Rattle.scan_face.proofs.tmv_scan_ceiling_samples.Kinds as ceiling-samples-kinds
use Rattle.scan_face.proofs.tmv_scan_ceiling_samples.Reads as ceiling-samples-reads
use Rattle.scan_face.proofs.tmv_scan_frames.Kinds as frames-kinds
use Rattle.scan_face.proofs.tmv_scan_frames.Reads as frames-reads
use Rattle.scan_face.proofs.tmv_scan_correlation.Kinds as correlation-kinds
use Rattle.scan_face.proofs.tmv_scan_correlation.Reads as correlation-reads
use Rattle.scan_face.proofs.tmv_scan_region.Kinds as region-kinds
use Rattle.scan_face.proofs.tmv_scan_region.Reads as region-reads
use Rattle.scan_face.proofs.tmv_scan_beyond_ceiling.Kinds as beyond-ceiling-kinds
use Rattle.scan_face.proofs.tmv_scan_beyond_ceiling.Reads as beyond-ceiling-reads
use Rattle.scan_face.proofs.tmv_scan_finished.Kinds as finished-kinds
use Rattle.scan_face.proofs.tmv_scan_finished.Reads as finished-reads
use Rattle.scan_face.proofs.tmv_scan_exhausted.Kinds as exhausted-kinds
use Rattle.scan_face.proofs.tmv_scan_exhausted.Reads as exhausted-reads

pub words_once : Determined 0 words-kinds.ps words-kinds.r words-reads.Post
words_once κs a v w x y p q = once p q

pub envelope_len_once : Determined 0 envelope-len-kinds.ps envelope-len-kinds.r envelope-len-reads.Post
envelope_len_once κs a v w x y p q = once p q

pub levels_len_once : Determined 0 levels-len-kinds.ps levels-len-kinds.r levels-len-reads.Post
levels_len_once κs a v w x y p q = once p q

pub window_len_once : Determined 0 window-len-kinds.ps window-len-kinds.r window-len-reads.Post
window_len_once κs a v w x y p q = once p q

pub prefix_len_once : Determined 0 prefix-len-kinds.ps prefix-len-kinds.r prefix-len-reads.Post
prefix_len_once κs a v w x y p q = once p q

pub lags_len_once : Determined 0 lags-len-kinds.ps lags-len-kinds.r lags-len-reads.Post
lags_len_once κs a v w x y p q = once p q

pub new_once : Determined 3 new-kinds.ps new-kinds.r new-reads.Post
new_once κs a v w x y p q = once p.0 q.0

pub new_leaves_once : (κs : Lfts 3) (a : Dens κs new-kinds.ps) (v w : (res_t new-kinds.r κs).Denot) (x y : AtExit (ended_of 3 new-kinds.ps new-kinds.r) κs)
    → new-reads.Post κs a v x → new-reads.Post κs a w y
    → (x.0.now ≡ y.0.now) ×
    (x.1.0.now ≡ y.1.0.now) ×
    (x.1.1.0.now ≡ y.1.1.0.now)
new_leaves_once κs a v w x y p q = (
  once p.1.0 q.1.0,
  ap (λ (h : History). h.envelope) (once p.1.1 q.1.1),
  ap (λ (h : History). h.lag_sums) (once p.1.1 q.1.1),
)

pub reset_once : Determined 3 reset-kinds.ps reset-kinds.r reset-reads.Post
reset_once κs a v w x y p q = once p.0 q.0

pub reset_leaves_once : (κs : Lfts 3) (a : Dens κs reset-kinds.ps) (v w : (res_t reset-kinds.r κs).Denot) (x y : AtExit (ended_of 3 reset-kinds.ps reset-kinds.r) κs)
    → reset-reads.Post κs a v x → reset-reads.Post κs a w y
    → (x.0.now ≡ y.0.now) ×
    (x.1.0.now ≡ y.1.0.now) ×
    (x.1.1.0.now ≡ y.1.1.0.now)
reset_leaves_once κs a v w x y p q = (
  once p.1.0 q.1.0,
  ap (λ (h : History). h.envelope) (once p.1.1 q.1.1),
  ap (λ (h : History). h.lag_sums) (once p.1.1 q.1.1),
)

pub rearm_once : Determined 2 rearm-kinds.ps rearm-kinds.r rearm-reads.Post
rearm_once κs a v w x y p q = once p.0 q.0

pub rearm_leaves_once : (κs : Lfts 2) (a : Dens κs rearm-kinds.ps) (v w : (res_t rearm-kinds.r κs).Denot) (x y : AtExit (ended_of 2 rearm-kinds.ps rearm-kinds.r) κs)
    → rearm-reads.Post κs a v x → rearm-reads.Post κs a w y
    → (x.0.now ≡ y.0.now) ×
    (x.1.0.now ≡ y.1.0.now)
rearm_leaves_once κs a v w x y p q = (
  once p.1.0 q.1.0,
  once p.1.1 q.1.1,
)

pub discard_near_once : Determined 2 discard-near-kinds.ps discard-near-kinds.r discard-near-reads.Post
discard_near_once κs a v w x y p q = once p.0 q.0

pub discard_near_leaves_once : (κs : Lfts 2) (a : Dens κs discard-near-kinds.ps) (v w : (res_t discard-near-kinds.r κs).Denot) (x y : AtExit (ended_of 2 discard-near-kinds.ps discard-near-kinds.r) κs)
    → discard-near-reads.Post κs a v x → discard-near-reads.Post κs a w y
    → (x.0.now ≡ y.0.now) ×
    (x.1.0.now ≡ y.1.0.now)
discard_near_leaves_once κs a v w x y p q = (
  once p.1.0 q.1.0,
  once p.1.1 q.1.1,
)

pub push_far_once : Determined 3 push-far-kinds.ps push-far-kinds.r push-far-reads.Post
push_far_once κs a v w x y p q = once p.0 q.0

pub push_far_leaves_once : (κs : Lfts 3) (a : Dens κs push-far-kinds.ps) (v w : (res_t push-far-kinds.r κs).Denot) (x y : AtExit (ended_of 3 push-far-kinds.ps push-far-kinds.r) κs)
    → push-far-reads.Post κs a v x → push-far-reads.Post κs a w y
    → (x.0.now ≡ y.0.now) ×
    (x.1.0.now ≡ y.1.0.now)
push_far_leaves_once κs a v w x y p q = (
  once p.1.0 q.1.0,
  once p.1.1 q.1.1,
)

pub push_near_once : Determined 2 push-near-kinds.ps push-near-kinds.r push-near-reads.Post
push_near_once κs a v w x y p q = once p.0 q.0

pub push_near_leaves_once : (κs : Lfts 2) (a : Dens κs push-near-kinds.ps) (v w : (res_t push-near-kinds.r κs).Denot) (x y : AtExit (ended_of 2 push-near-kinds.ps push-near-kinds.r) κs)
    → push-near-reads.Post κs a v x → push-near-reads.Post κs a w y
    → (x.0.now ≡ y.0.now) ×
    (x.1.0.now ≡ y.1.0.now)
push_near_leaves_once κs a v w x y p q = (
  once p.1.0 q.1.0,
  once p.1.1 q.1.1,
)

pub observe_once : Determined 9 observe-kinds.ps observe-kinds.r observe-reads.Post
observe_once κs a v w x y p q = once p.0 q.0

pub observe_leaves_once : (κs : Lfts 9) (a : Dens κs observe-kinds.ps) (v w : (res_t observe-kinds.r κs).Denot) (x y : AtExit (ended_of 9 observe-kinds.ps observe-kinds.r) κs)
    → observe-reads.Post κs a v x → observe-reads.Post κs a w y
    → (x.0.now ≡ y.0.now) ×
    (x.1.1.1.0.now ≡ y.1.1.1.0.now) ×
    (x.1.1.1.1.0.now ≡ y.1.1.1.1.0.now) ×
    (x.1.1.1.1.1.0.now ≡ y.1.1.1.1.1.0.now) ×
    (x.1.1.1.1.1.1.0.now ≡ y.1.1.1.1.1.1.0.now) ×
    (x.1.1.1.1.1.1.1.0.now ≡ y.1.1.1.1.1.1.1.0.now) ×
    (x.1.1.1.1.1.1.1.1.0.now ≡ y.1.1.1.1.1.1.1.1.0.now)
observe_leaves_once κs a v w x y p q = (
  once p.1.0 q.1.0,
  ap (λ (b : Buffers). b.window) (once p.1.1.0 q.1.1.0),
  ap (λ (b : Buffers). b.prefix) (once p.1.1.0 q.1.1.0),
  ap (λ (b : Buffers). b.squares) (once p.1.1.0 q.1.1.0),
  ap (λ (b : Buffers). b.scores) (once p.1.1.0 q.1.1.0),
  ap (λ (b : Buffers). b.lag_sums) (once p.1.1.0 q.1.1.0),
  once p.1.1.1 q.1.1.1,
)

pub bin_samples_once : Determined 2 bin-samples-kinds.ps bin-samples-kinds.r bin-samples-reads.Post
bin_samples_once κs a v w x y p q = once p.0 q.0

pub bin_samples_leaves_once : (κs : Lfts 2) (a : Dens κs bin-samples-kinds.ps) (v w : (res_t bin-samples-kinds.r κs).Denot) (x y : AtExit (ended_of 2 bin-samples-kinds.ps bin-samples-kinds.r) κs)
    → bin-samples-reads.Post κs a v x → bin-samples-reads.Post κs a w y
    → x.1.0.now ≡ y.1.0.now
bin_samples_leaves_once κs a v w x y p q = once p.1 q.1

pub ceiling_samples_once : Determined 2 ceiling-samples-kinds.ps ceiling-samples-kinds.r ceiling-samples-reads.Post
ceiling_samples_once κs a v w x y p q = once p.0 q.0

pub ceiling_samples_leaves_once : (κs : Lfts 2) (a : Dens κs ceiling-samples-kinds.ps) (v w : (res_t ceiling-samples-kinds.r κs).Denot) (x y : AtExit (ended_of 2 ceiling-samples-kinds.ps ceiling-samples-kinds.r) κs)
    → ceiling-samples-reads.Post κs a v x → ceiling-samples-reads.Post κs a w y
    → x.1.0.now ≡ y.1.0.now
ceiling_samples_leaves_once κs a v w x y p q = once p.1 q.1

pub frames_once : Determined 2 frames-kinds.ps frames-kinds.r frames-reads.Post
frames_once κs a v w x y p q = once p.0 q.0

pub frames_leaves_once : (κs : Lfts 2) (a : Dens κs frames-kinds.ps) (v w : (res_t frames-kinds.r κs).Denot) (x y : AtExit (ended_of 2 frames-kinds.ps frames-kinds.r) κs)
    → frames-reads.Post κs a v x → frames-reads.Post κs a w y
    → x.1.0.now ≡ y.1.0.now
frames_leaves_once κs a v w x y p q = once p.1 q.1

pub correlation_once : Determined 2 correlation-kinds.ps correlation-kinds.r correlation-reads.Post
correlation_once κs a v w x y p q = once p.0 q.0

pub correlation_leaves_once : (κs : Lfts 2) (a : Dens κs correlation-kinds.ps) (v w : (res_t correlation-kinds.r κs).Denot) (x y : AtExit (ended_of 2 correlation-kinds.ps correlation-kinds.r) κs)
    → correlation-reads.Post κs a v x → correlation-reads.Post κs a w y
    → x.1.0.now ≡ y.1.0.now
correlation_leaves_once κs a v w x y p q = once p.1 q.1

pub region_once : Determined 2 region-kinds.ps region-kinds.r region-reads.Post
region_once κs a v w x y p q = once p.0 q.0

pub region_leaves_once : (κs : Lfts 2) (a : Dens κs region-kinds.ps) (v w : (res_t region-kinds.r κs).Denot) (x y : AtExit (ended_of 2 region-kinds.ps region-kinds.r) κs)
    → region-reads.Post κs a v x → region-reads.Post κs a w y
    → x.1.0.now ≡ y.1.0.now
region_leaves_once κs a v w x y p q = once p.1 q.1

pub beyond_ceiling_once : Determined 1 beyond-ceiling-kinds.ps beyond-ceiling-kinds.r beyond-ceiling-reads.Post
beyond_ceiling_once κs a v w x y p q = once p q

pub finished_once : Determined 1 finished-kinds.ps finished-kinds.r finished-reads.Post
finished_once κs a v w x y p q = once p q

pub exhausted_once : Determined 1 exhausted-kinds.ps exhausted-kinds.r exhausted-reads.Post
exhausted_once κs a v w x y p q = once p q

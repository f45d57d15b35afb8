-- Every call of the profile: its contract admits one answer, and one list in each place that it is lent.
use mathlib.Core.Path.{◌≡◌, ap}
use contract.Lifetimes.{Lfts}
use denote.Triple.Clauses.{AtExit}
use borrow.Fn.Kinds.{Dens, res_t, ended_of}
use Rattle.answers.specs.Once.{Determined}
use Rattle.answers.proofs.Once.{once}
use Rattle.scan.specs.State.{Buffers}
use Rattle.scan_face.specs.Calls.{History}
use Rattle.scan_panel_face.proofs.tmv_panel_envelope_len.Kinds as envelope-len-kinds
use Rattle.scan_panel_face.proofs.tmv_panel_envelope_len.Reads as envelope-len-reads
use Rattle.scan_panel_face.proofs.tmv_panel_new.Kinds as new-kinds
use Rattle.scan_panel_face.proofs.tmv_panel_new.Reads as new-reads
use Rattle.scan_panel_face.proofs.tmv_panel_reset.Kinds as reset-kinds
use Rattle.scan_panel_face.proofs.tmv_panel_reset.Reads as reset-reads
use Rattle.scan_panel_face.proofs.tmv_panel_rearm.Kinds as rearm-kinds
use Rattle.scan_panel_face.proofs.tmv_panel_rearm.Reads as rearm-reads
use Rattle.scan_panel_face.proofs.tmv_panel_discard_near.Kinds as discard-near-kinds
use Rattle.scan_panel_face.proofs.tmv_panel_discard_near.Reads as discard-near-reads
use Rattle.scan_panel_face.proofs.tmv_panel_push_far.Kinds as push-far-kinds
use Rattle.scan_panel_face.proofs.tmv_panel_push_far.Reads as push-far-reads
use Rattle.scan_panel_face.proofs.tmv_panel_push_near.Kinds as push-near-kinds
use Rattle.scan_panel_face.proofs.tmv_panel_push_near.Reads as push-near-reads
use Rattle.scan_panel_face.proofs.tmv_panel_push_near_run.Kinds as push-near-run-kinds
use Rattle.scan_panel_face.proofs.tmv_panel_push_near_run.Reads as push-near-run-reads
use Rattle.scan_panel_face.proofs.tmv_panel_observe.Kinds as observe-kinds
use Rattle.scan_panel_face.proofs.tmv_panel_observe.Reads as observe-reads

pub panel_envelope_len_once : Determined 0 envelope-len-kinds.ps envelope-len-kinds.r envelope-len-reads.Post
panel_envelope_len_once κs a v w x y p q = once p q

pub panel_new_once : Determined 3 new-kinds.ps new-kinds.r new-reads.Post
panel_new_once κs a v w x y p q = once p.0 q.0

pub panel_new_leaves_once : (κs : Lfts 3) (a : Dens κs new-kinds.ps) (v w : (res_t new-kinds.r κs).Denot) (x y : AtExit (ended_of 3 new-kinds.ps new-kinds.r) κs)
    → new-reads.Post κs a v x → new-reads.Post κs a w y
    → (x.0.now ≡ y.0.now) ×
    (x.1.0.now ≡ y.1.0.now) ×
    (x.1.1.0.now ≡ y.1.1.0.now)
panel_new_leaves_once κs a v w x y p q = (
  once p.1.0 q.1.0,
  ap (λ (h : History). h.envelope) (once p.1.1 q.1.1),
  ap (λ (h : History). h.lag_sums) (once p.1.1 q.1.1),
)

pub panel_reset_once : Determined 3 reset-kinds.ps reset-kinds.r reset-reads.Post
panel_reset_once κs a v w x y p q = once p.0 q.0

pub panel_reset_leaves_once : (κs : Lfts 3) (a : Dens κs reset-kinds.ps) (v w : (res_t reset-kinds.r κs).Denot) (x y : AtExit (ended_of 3 reset-kinds.ps reset-kinds.r) κs)
    → reset-reads.Post κs a v x → reset-reads.Post κs a w y
    → (x.0.now ≡ y.0.now) ×
    (x.1.0.now ≡ y.1.0.now) ×
    (x.1.1.0.now ≡ y.1.1.0.now)
panel_reset_leaves_once κs a v w x y p q = (
  once p.1.0 q.1.0,
  ap (λ (h : History). h.envelope) (once p.1.1 q.1.1),
  ap (λ (h : History). h.lag_sums) (once p.1.1 q.1.1),
)

pub panel_rearm_once : Determined 2 rearm-kinds.ps rearm-kinds.r rearm-reads.Post
panel_rearm_once κs a v w x y p q = once p.0 q.0

pub panel_rearm_leaves_once : (κs : Lfts 2) (a : Dens κs rearm-kinds.ps) (v w : (res_t rearm-kinds.r κs).Denot) (x y : AtExit (ended_of 2 rearm-kinds.ps rearm-kinds.r) κs)
    → rearm-reads.Post κs a v x → rearm-reads.Post κs a w y
    → (x.0.now ≡ y.0.now) ×
    (x.1.0.now ≡ y.1.0.now)
panel_rearm_leaves_once κs a v w x y p q = (
  once p.1.0 q.1.0,
  once p.1.1 q.1.1,
)

pub panel_discard_near_once : Determined 2 discard-near-kinds.ps discard-near-kinds.r discard-near-reads.Post
panel_discard_near_once κs a v w x y p q = once p.0 q.0

pub panel_discard_near_leaves_once : (κs : Lfts 2) (a : Dens κs discard-near-kinds.ps) (v w : (res_t discard-near-kinds.r κs).Denot) (x y : AtExit (ended_of 2 discard-near-kinds.ps discard-near-kinds.r) κs)
    → discard-near-reads.Post κs a v x → discard-near-reads.Post κs a w y
    → (x.0.now ≡ y.0.now) ×
    (x.1.0.now ≡ y.1.0.now)
panel_discard_near_leaves_once κs a v w x y p q = (
  once p.1.0 q.1.0,
  once p.1.1 q.1.1,
)

pub panel_push_far_once : Determined 3 push-far-kinds.ps push-far-kinds.r push-far-reads.Post
panel_push_far_once κs a v w x y p q = once p.0 q.0

pub panel_push_far_leaves_once : (κs : Lfts 3) (a : Dens κs push-far-kinds.ps) (v w : (res_t push-far-kinds.r κs).Denot) (x y : AtExit (ended_of 3 push-far-kinds.ps push-far-kinds.r) κs)
    → push-far-reads.Post κs a v x → push-far-reads.Post κs a w y
    → (x.0.now ≡ y.0.now) ×
    (x.1.0.now ≡ y.1.0.now)
panel_push_far_leaves_once κs a v w x y p q = (
  once p.1.0 q.1.0,
  once p.1.1 q.1.1,
)

pub panel_push_near_once : Determined 2 push-near-kinds.ps push-near-kinds.r push-near-reads.Post
panel_push_near_once κs a v w x y p q = once p.0 q.0

pub panel_push_near_leaves_once : (κs : Lfts 2) (a : Dens κs push-near-kinds.ps) (v w : (res_t push-near-kinds.r κs).Denot) (x y : AtExit (ended_of 2 push-near-kinds.ps push-near-kinds.r) κs)
    → push-near-reads.Post κs a v x → push-near-reads.Post κs a w y
    → (x.0.now ≡ y.0.now) ×
    (x.1.0.now ≡ y.1.0.now)
panel_push_near_leaves_once κs a v w x y p q = (
  once p.1.0 q.1.0,
  once p.1.1 q.1.1,
)

pub panel_push_near_run_once : Determined 4 push-near-run-kinds.ps push-near-run-kinds.r push-near-run-reads.Post
panel_push_near_run_once κs a v w x y p q = once p.0 q.0

pub panel_push_near_run_leaves_once : (κs : Lfts 4) (a : Dens κs push-near-run-kinds.ps) (v w : (res_t push-near-run-kinds.r κs).Denot) (x y : AtExit (ended_of 4 push-near-run-kinds.ps push-near-run-kinds.r) κs)
    → push-near-run-reads.Post κs a v x → push-near-run-reads.Post κs a w y
    → (x.0.now ≡ y.0.now) × (x.1.0.now ≡ y.1.0.now) × (x.1.1.1.1.0.now ≡ y.1.1.1.1.0.now)
panel_push_near_run_leaves_once κs a v w x y p q = (once p.1.0 q.1.0, once p.1.1.0 q.1.1.0, once p.1.1.1 q.1.1.1)

pub panel_observe_once : Determined 9 observe-kinds.ps observe-kinds.r observe-reads.Post
panel_observe_once κs a v w x y p q = once p.0 q.0

pub panel_observe_leaves_once : (κs : Lfts 9) (a : Dens κs observe-kinds.ps) (v w : (res_t observe-kinds.r κs).Denot) (x y : AtExit (ended_of 9 observe-kinds.ps observe-kinds.r) κs)
    → observe-reads.Post κs a v x → observe-reads.Post κs a w y
    → (x.0.now ≡ y.0.now) ×
    (x.1.1.1.0.now ≡ y.1.1.1.0.now) ×
    (x.1.1.1.1.0.now ≡ y.1.1.1.1.0.now) ×
    (x.1.1.1.1.1.0.now ≡ y.1.1.1.1.1.0.now) ×
    (x.1.1.1.1.1.1.0.now ≡ y.1.1.1.1.1.1.0.now) ×
    (x.1.1.1.1.1.1.1.0.now ≡ y.1.1.1.1.1.1.1.0.now) ×
    (x.1.1.1.1.1.1.1.1.0.now ≡ y.1.1.1.1.1.1.1.1.0.now)
panel_observe_leaves_once κs a v w x y p q = (
  once p.1.0 q.1.0,
  ap (λ (b : Buffers). b.window) (once p.1.1.0 q.1.1.0),
  ap (λ (b : Buffers). b.prefix) (once p.1.1.0 q.1.1.0),
  ap (λ (b : Buffers). b.squares) (once p.1.1.0 q.1.1.0),
  ap (λ (b : Buffers). b.scores) (once p.1.1.0 q.1.1.0),
  ap (λ (b : Buffers). b.lag_sums) (once p.1.1.0 q.1.1.0),
  once p.1.1.1 q.1.1.1,
)

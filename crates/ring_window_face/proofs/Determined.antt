-- Each call: its contract admits one answer, and one list in each place that it is lent. A NaN in a window of floats is one, whatever its payload.
use mathlib.Core.Path.{◌≡◌}
use contract.Lifetimes.{Lfts}
use denote.Triple.Clauses.{AtExit}
use borrow.Fn.Kinds.{Dens, res_t, ended_of}
use Rattle.answers.specs.Once.{Determined}
use Rattle.answers.proofs.Once.{once}
use Rattle.ring_window_face.proofs.tmv_ring_window.Kinds as window-kinds
use Rattle.ring_window_face.proofs.tmv_ring_window.Reads as window-reads
use Rattle.ring_window_face.proofs.tmv_ring_window_floats.Kinds as window-floats-kinds
use Rattle.ring_window_face.proofs.tmv_ring_window_floats.Reads as window-floats-reads
use Rattle.ring_window_face.proofs.tmv_ring_push_floats.Kinds as push-floats-kinds
use Rattle.ring_window_face.proofs.tmv_ring_push_floats.Reads as push-floats-reads

pub ring_window_once : Determined 4 window-kinds.ps window-kinds.r window-reads.Post
ring_window_once κs a v w x y p q = once p.0 q.0

pub ring_window_leaves_once : (κs : Lfts 4) (a : Dens κs window-kinds.ps) (v w : (res_t window-kinds.r κs).Denot) (x y : AtExit (ended_of 4 window-kinds.ps window-kinds.r) κs)
    → window-reads.Post κs a v x → window-reads.Post κs a w y
    → (x.1.1.1.1.0.now ≡ y.1.1.1.1.0.now) × (x.1.1.1.1.1.0.now ≡ y.1.1.1.1.1.0.now)
ring_window_leaves_once κs a v w x y p q = (once p.1.0 q.1.0, once p.1.1 q.1.1)

pub ring_window_floats_once : Determined 4 window-floats-kinds.ps window-floats-kinds.r window-floats-reads.Post
ring_window_floats_once κs a v w x y p q = once p.0 q.0

pub ring_window_floats_leaves_once : (κs : Lfts 4) (a : Dens κs window-floats-kinds.ps) (v w : (res_t window-floats-kinds.r κs).Denot) (x y : AtExit (ended_of 4 window-floats-kinds.ps window-floats-kinds.r) κs)
    → window-floats-reads.Post κs a v x → window-floats-reads.Post κs a w y
    → (x.1.1.1.1.0.now ≡ y.1.1.1.1.0.now) × (x.1.1.1.1.1.0.now ≡ y.1.1.1.1.1.0.now)
ring_window_floats_leaves_once κs a v w x y p q = (once p.1.0 q.1.0, once p.1.1 q.1.1)

pub ring_push_floats_once : Determined 3 push-floats-kinds.ps push-floats-kinds.r push-floats-reads.Post
ring_push_floats_once κs a v w x y p q = once p.0 q.0

pub ring_push_floats_leaves_once : (κs : Lfts 3) (a : Dens κs push-floats-kinds.ps) (v w : (res_t push-floats-kinds.r κs).Denot) (x y : AtExit (ended_of 3 push-floats-kinds.ps push-floats-kinds.r) κs)
    → push-floats-reads.Post κs a v x → push-floats-reads.Post κs a w y
    → (x.0.now ≡ y.0.now) × (x.1.0.now ≡ y.1.0.now)
ring_push_floats_leaves_once κs a v w x y p q = (once p.1.0 q.1.0, once p.1.1 q.1.1)

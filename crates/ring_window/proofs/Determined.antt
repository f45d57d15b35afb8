-- Every public call: its contract admits one answer, and one list in each place that it writes. A NaN in a window of floats is one, whatever its payload.
use mathlib.Core.Path.{◌≡◌}
use contract.Lifetimes.{Lfts}
use denote.Triple.Clauses.{AtExit}
use borrow.Fn.Kinds.{Dens, res_t, ended_of}
use Rattle.answers.specs.Once.{Determined}
use Rattle.answers.proofs.Once.{once}
use Rattle.ring_window.proofs.window.Kinds as window-kinds
use Rattle.ring_window.proofs.window.Reads as window-reads
use Rattle.ring_window.proofs.window_floats.Kinds as window-floats-kinds
use Rattle.ring_window.proofs.window_floats.Reads as window-floats-reads
use Rattle.ring_window.proofs.push_floats.Kinds as push-floats-kinds
use Rattle.ring_window.proofs.push_floats.Reads as push-floats-reads

pub window_once : Determined 2 window-kinds.ps window-kinds.r window-reads.Post
window_once κs a v w x y p q = once p.0 q.0

pub window_leaves_once : (κs : Lfts 2) (a : Dens κs window-kinds.ps) (v w : (res_t window-kinds.r κs).Denot) (x y : AtExit (ended_of 2 window-kinds.ps window-kinds.r) κs)
    → window-reads.Post κs a v x → window-reads.Post κs a w y → x.1.1.1.1.0.now ≡ y.1.1.1.1.0.now
window_leaves_once κs a v w x y p q = once p.1 q.1

pub window_floats_once : Determined 2 window-floats-kinds.ps window-floats-kinds.r window-floats-reads.Post
window_floats_once κs a v w x y p q = once p.0 q.0

pub window_floats_leaves_once : (κs : Lfts 2) (a : Dens κs window-floats-kinds.ps) (v w : (res_t window-floats-kinds.r κs).Denot) (x y : AtExit (ended_of 2 window-floats-kinds.ps window-floats-kinds.r) κs)
    → window-floats-reads.Post κs a v x → window-floats-reads.Post κs a w y → x.1.1.1.1.0.now ≡ y.1.1.1.1.0.now
window_floats_leaves_once κs a v w x y p q = once p.1 q.1

pub push_floats_once : Determined 2 push-floats-kinds.ps push-floats-kinds.r push-floats-reads.Post
push_floats_once κs a v w x y p q = once p.0 q.0

pub push_floats_leaves_once : (κs : Lfts 2) (a : Dens κs push-floats-kinds.ps) (v w : (res_t push-floats-kinds.r κs).Denot) (x y : AtExit (ended_of 2 push-floats-kinds.ps push-floats-kinds.r) κs)
    → push-floats-reads.Post κs a v x → push-floats-reads.Post κs a w y → x.1.0.now ≡ y.1.0.now
push_floats_leaves_once κs a v w x y p q = once p.1 q.1

-- Every call of the ring: its contract admits one answer, and one list in each place that it is lent.
use mathlib.Core.Path.{◌≡◌}
use contract.Lifetimes.{Lfts}
use denote.Triple.Clauses.{AtExit}
use borrow.Fn.Kinds.{Dens, res_t, ended_of}
use Rattle.answers.specs.Once.{Determined}
use Rattle.answers.proofs.Once.{once}
use Rattle.ring_face.proofs.tmv_ring_words.Kinds as words-kinds
use Rattle.ring_face.proofs.tmv_ring_words.Reads as words-reads
use Rattle.ring_face.proofs.tmv_ring_new.Kinds as new-kinds
use Rattle.ring_face.proofs.tmv_ring_new.Reads as new-reads
use Rattle.ring_face.proofs.tmv_ring_push.Kinds as push-kinds
use Rattle.ring_face.proofs.tmv_ring_push.Reads as push-reads
use Rattle.ring_face.proofs.tmv_ring_clear.Kinds as clear-kinds
use Rattle.ring_face.proofs.tmv_ring_clear.Reads as clear_reads
use Rattle.ring_face.proofs.tmv_ring_get.Kinds as get-kinds
use Rattle.ring_face.proofs.tmv_ring_get.Reads as get-reads
use Rattle.ring_face.proofs.tmv_ring_next_abs.Kinds as next-abs-kinds
use Rattle.ring_face.proofs.tmv_ring_next_abs.Reads as next-abs-reads
use Rattle.ring_face.proofs.tmv_ring_capacity.Kinds as capacity-kinds
use Rattle.ring_face.proofs.tmv_ring_capacity.Reads as capacity-reads
use Rattle.ring_face.proofs.tmv_ring_dropped.Kinds as dropped-kinds
use Rattle.ring_face.proofs.tmv_ring_dropped.Reads as dropped-reads

pub words_once : Determined 0 words-kinds.ps words-kinds.r words-reads.Post
words_once κs a v w x y p q = once p q

pub new_once : Determined 2 new-kinds.ps new-kinds.r new-reads.Post
new_once κs a v w x y p q = once p.0 q.0

pub new_leaves_once : (κs : Lfts 2) (a : Dens κs new-kinds.ps) (v w : (res_t new-kinds.r κs).Denot) (x y : AtExit (ended_of 2 new-kinds.ps new-kinds.r) κs)
    → new-reads.Post κs a v x → new-reads.Post κs a w y
    → x.0.now ≡ y.0.now
new_leaves_once κs a v w x y p q = once p.1 q.1

pub push_once : Determined 3 push-kinds.ps push-kinds.r push-reads.Post
push_once κs a v w x y p q = once p.0 q.0

pub push_leaves_once : (κs : Lfts 3) (a : Dens κs push-kinds.ps) (v w : (res_t push-kinds.r κs).Denot) (x y : AtExit (ended_of 3 push-kinds.ps push-kinds.r) κs)
    → push-reads.Post κs a v x → push-reads.Post κs a w y
    → (x.0.now ≡ y.0.now) ×
    (x.1.0.now ≡ y.1.0.now)
push_leaves_once κs a v w x y p q = (
  once p.1.0 q.1.0,
  once p.1.1 q.1.1,
)

pub clear_once : Determined 2 clear-kinds.ps clear-kinds.r clear_reads.Post
clear_once κs a v w x y p q = once p.0 q.0

pub clear_leaves_once : (κs : Lfts 2) (a : Dens κs clear-kinds.ps) (v w : (res_t clear-kinds.r κs).Denot) (x y : AtExit (ended_of 2 clear-kinds.ps clear-kinds.r) κs)
    → clear_reads.Post κs a v x → clear_reads.Post κs a w y
    → x.0.now ≡ y.0.now
clear_leaves_once κs a v w x y p q = once p.1 q.1

pub get_once : Determined 3 get-kinds.ps get-kinds.r get-reads.Post
get_once κs a v w x y p q = once p.0 q.0

pub get_leaves_once : (κs : Lfts 3) (a : Dens κs get-kinds.ps) (v w : (res_t get-kinds.r κs).Denot) (x y : AtExit (ended_of 3 get-kinds.ps get-kinds.r) κs)
    → get-reads.Post κs a v x → get-reads.Post κs a w y
    → x.1.1.1.0.now ≡ y.1.1.1.0.now
get_leaves_once κs a v w x y p q = once p.1 q.1

pub next_abs_once : Determined 3 next-abs-kinds.ps next-abs-kinds.r next-abs-reads.Post
next_abs_once κs a v w x y p q = once p.0 q.0

pub next_abs_leaves_once : (κs : Lfts 3) (a : Dens κs next-abs-kinds.ps) (v w : (res_t next-abs-kinds.r κs).Denot) (x y : AtExit (ended_of 3 next-abs-kinds.ps next-abs-kinds.r) κs)
    → next-abs-reads.Post κs a v x → next-abs-reads.Post κs a w y
    → x.1.1.0.now ≡ y.1.1.0.now
next_abs_leaves_once κs a v w x y p q = once p.1 q.1

pub capacity_once : Determined 3 capacity-kinds.ps capacity-kinds.r capacity-reads.Post
capacity_once κs a v w x y p q = once p.0 q.0

pub capacity_leaves_once : (κs : Lfts 3) (a : Dens κs capacity-kinds.ps) (v w : (res_t capacity-kinds.r κs).Denot) (x y : AtExit (ended_of 3 capacity-kinds.ps capacity-kinds.r) κs)
    → capacity-reads.Post κs a v x → capacity-reads.Post κs a w y
    → x.1.1.0.now ≡ y.1.1.0.now
capacity_leaves_once κs a v w x y p q = once p.1 q.1

pub dropped_once : Determined 3 dropped-kinds.ps dropped-kinds.r dropped-reads.Post
dropped_once κs a v w x y p q = once p.0 q.0

pub dropped_leaves_once : (κs : Lfts 3) (a : Dens κs dropped-kinds.ps) (v w : (res_t dropped-kinds.r κs).Denot) (x y : AtExit (ended_of 3 dropped-kinds.ps dropped-kinds.r) κs)
    → dropped-reads.Post κs a v x → dropped-reads.Post κs a w y
    → x.1.1.0.now ≡ y.1.1.0.now
dropped_leaves_once κs a v w x y p q = once p.1 q.1

-- Every public call: its contract admits one answer with its ring, and one buffer.
use mathlib.Core.Path.{◌≡◌}
use contract.Lifetimes.{Lfts}
use denote.Triple.Clauses.{AtExit}
use borrow.Fn.Kinds.{Dens, res_t, ended_of}
use Rattle.answers.specs.Once.{Determined}
use Rattle.answers.proofs.Once.{once}
use Rattle.ring.proofs.Ring.new.Kinds as new-kinds
use Rattle.ring.proofs.Ring.new.Reads as new-reads
use Rattle.ring.proofs.Ring.push.Kinds as push-kinds
use Rattle.ring.proofs.Ring.push.Reads as push-reads
use Rattle.ring.proofs.Ring.get.Kinds as get-kinds
use Rattle.ring.proofs.Ring.get.Reads as get-reads
use Rattle.ring.proofs.Ring.next_abs.Kinds as next-abs-kinds
use Rattle.ring.proofs.Ring.next_abs.Reads as next-abs-reads
use Rattle.ring.proofs.Ring.capacity.Kinds as capacity-kinds
use Rattle.ring.proofs.Ring.capacity.Reads as capacity-reads
use Rattle.ring.proofs.Ring.dropped.Kinds as dropped-kinds
use Rattle.ring.proofs.Ring.dropped.Reads as dropped-reads
use Rattle.ring.proofs.Ring.clear.Kinds as clear-kinds
use Rattle.ring.proofs.Ring.clear.Reads as clear_reads

pub new_once : Determined 1 new-kinds.ps new-kinds.r new-reads.Post
new_once κs a v w x y p q = once p q

pub push_once : Determined 2 push-kinds.ps push-kinds.r push-reads.Post
push_once κs a v w x y p q = once p.0 q.0

pub push_leaves_once : (κs : Lfts 2) (a : Dens κs push-kinds.ps) (v w : (res_t push-kinds.r κs).Denot) (x y : AtExit (ended_of 2 push-kinds.ps push-kinds.r) κs)
    → push-reads.Post κs a v x → push-reads.Post κs a w y → x.1.0.now ≡ y.1.0.now
push_leaves_once κs a v w x y p q = once p.1 q.1

pub get_once : Determined 1 get-kinds.ps get-kinds.r get-reads.Post
get_once κs a v w x y p q = once p q

pub next_abs_once : Determined 1 next-abs-kinds.ps next-abs-kinds.r next-abs-reads.Post
next_abs_once κs a v w x y p q = once p q

pub capacity_once : Determined 1 capacity-kinds.ps capacity-kinds.r capacity-reads.Post
capacity_once κs a v w x y p q = once p q

pub dropped_once : Determined 1 dropped-kinds.ps dropped-kinds.r dropped-reads.Post
dropped_once κs a v w x y p q = once p q

pub clear_once : Determined 1 clear-kinds.ps clear-kinds.r clear_reads.Post
clear_once κs a v w x y p q = once p q

-- Every public call: its contract admits one result, and one list in each lent buffer.
use mathlib.Core.Path.{◌≡◌}
use contract.Lifetimes.{Lfts}
use denote.Triple.Clauses.{AtExit}
use borrow.Fn.Kinds.{Dens, res_t, ended_of}
use Rattle.answers.specs.Once.{Determined}
use Rattle.answers.proofs.Once.{once}
use Rattle.scan_push.proofs.push_far.Kinds as push-far-kinds
use Rattle.scan_push.proofs.push_far.Reads as push-far-reads
use Rattle.scan_push.proofs.push_near.Kinds as push-near-kinds
use Rattle.scan_push.proofs.push_near.Reads as push-near-reads

pub push_far_once : Determined 2 push-far-kinds.ps push-far-kinds.r push-far-reads.Post
push_far_once κs a v w x y p q = once p.0 q.0

pub push_far_envelope_once : (κs : Lfts 2) (a : Dens κs push-far-kinds.ps) (v w : (res_t push-far-kinds.r κs).Denot) (x y : AtExit (ended_of 2 push-far-kinds.ps push-far-kinds.r) κs)
    → push-far-reads.Post κs a v x → push-far-reads.Post κs a w y → x.1.0.now ≡ y.1.0.now
push_far_envelope_once κs a v w x y p q = once p.1 q.1

pub push_near_once : Determined 1 push-near-kinds.ps push-near-kinds.r push-near-reads.Post
push_near_once κs a v w x y p q = once p.0 q.0

pub push_near_levels_once : (κs : Lfts 1) (a : Dens κs push-near-kinds.ps) (v w : (res_t push-near-kinds.r κs).Denot) (x y : AtExit (ended_of 1 push-near-kinds.ps push-near-kinds.r) κs)
    → push-near-reads.Post κs a v x → push-near-reads.Post κs a w y → x.1.0.now ≡ y.1.0.now
push_near_levels_once κs a v w x y p q = once p.1 q.1

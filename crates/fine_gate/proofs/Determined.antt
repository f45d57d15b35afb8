-- Every public call: its contract admits one result, and one content of the buffer that it may write.
use Rattle.std.proofs.Common.{◌≡◌, ap}
use contract.Lifetimes.{Lfts}
use denote.Triple.Clauses.{AtExit}
use borrow.Fn.Kinds.{Dens, res_t, ended_of}
use Rattle.answers.specs.Once.{Determined}
use Rattle.answers.proofs.Once.{once}
use Rattle.fine_gate.specs.Gate.{NearPush, Gating}
use Rattle.fine_gate.proofs.push_near.Kinds as push-near-kinds
use Rattle.fine_gate.proofs.push_near.Reads as push-near-reads
use Rattle.fine_gate.proofs.gate.Kinds as gate-kinds
use Rattle.fine_gate.proofs.gate.Reads as gate-reads
use Rattle.fine_gate.proofs.rescan.Kinds as rescan-kinds
use Rattle.fine_gate.proofs.rescan.Reads as rescan-reads

pub push_near_once : Determined 1 push-near-kinds.ps push-near-kinds.r push-near-reads.Post
push_near_once κs a v w x y p q = ap (λ (r : NearPush). r.took) (once p q)

pub push_near_leaves_once : (κs : Lfts 1) (a : Dens κs push-near-kinds.ps) (v w : (res_t push-near-kinds.r κs).Denot) (x y : AtExit (ended_of 1 push-near-kinds.ps push-near-kinds.r) κs)
    → push-near-reads.Post κs a v x → push-near-reads.Post κs a w y → x.1.0.now ≡ y.1.0.now
push_near_leaves_once κs a v w x y p q = ap (λ (r : NearPush). r.near) (once p q)

pub gate_once : Determined 3 gate-kinds.ps gate-kinds.r gate-reads.Post
gate_once κs a v w x y p q = ap (λ (r : Gating). r.gated) (once p q)

pub gate_leaves_once : (κs : Lfts 3) (a : Dens κs gate-kinds.ps) (v w : (res_t gate-kinds.r κs).Denot) (x y : AtExit (ended_of 3 gate-kinds.ps gate-kinds.r) κs)
    → gate-reads.Post κs a v x → gate-reads.Post κs a w y → x.1.1.0.now ≡ y.1.1.0.now
gate_leaves_once κs a v w x y p q = ap (λ (r : Gating). r.retained) (once p q)

pub rescan_once : Determined 2 rescan-kinds.ps rescan-kinds.r rescan-reads.Post
rescan_once κs a v w x y p q = once p q

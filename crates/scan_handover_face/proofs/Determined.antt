-- The call: its contract admits one answer, and one list in each place that it is lent.
use mathlib.Core.Path.{◌≡◌}
use contract.Lifetimes.{Lfts}
use denote.Triple.Clauses.{AtExit}
use borrow.Fn.Kinds.{Dens, res_t, ended_of}
use Rattle.answers.specs.Once.{Determined}
use Rattle.answers.proofs.Once.{once}
use Rattle.scan_handover_face.proofs.tmv_scan_push_near_run.Kinds as push-near-run-kinds
use Rattle.scan_handover_face.proofs.tmv_scan_push_near_run.Reads as push-near-run-reads

pub scan_push_near_run_once : Determined 4 push-near-run-kinds.ps push-near-run-kinds.r push-near-run-reads.Post
scan_push_near_run_once κs a v w x y p q = once p.0 q.0

pub scan_push_near_run_leaves_once : (κs : Lfts 4) (a : Dens κs push-near-run-kinds.ps) (v w : (res_t push-near-run-kinds.r κs).Denot) (x y : AtExit (ended_of 4 push-near-run-kinds.ps push-near-run-kinds.r) κs)
    → push-near-run-reads.Post κs a v x → push-near-run-reads.Post κs a w y
    → (x.0.now ≡ y.0.now) × (x.1.0.now ≡ y.1.0.now) × (x.1.1.1.1.0.now ≡ y.1.1.1.1.0.now)
scan_push_near_run_leaves_once κs a v w x y p q = (once p.1.0 q.1.0, once p.1.1.0 q.1.1.0, once p.1.1.1 q.1.1.1)

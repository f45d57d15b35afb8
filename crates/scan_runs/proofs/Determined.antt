-- The public call: its contract admits one result, and one list of near levels.
use Rattle.std.proofs.Common.{◌≡◌}
use contract.Lifetimes.{Lfts}
use denote.Triple.Clauses.{AtExit}
use borrow.Fn.Kinds.{Dens, res_t, ended_of}
use Rattle.answers.specs.Once.{Determined}
use Rattle.answers.proofs.Once.{once}
use Rattle.scan_runs.proofs.push_near_run.Kinds as push-near-run-kinds
use Rattle.scan_runs.proofs.push_near_run.Reads as push-near-run-reads

pub push_near_run_once : Determined 2 push-near-run-kinds.ps push-near-run-kinds.r push-near-run-reads.Post
push_near_run_once κs a v w x y p q = once p.0 q.0

pub push_near_run_levels_once : (κs : Lfts 2) (a : Dens κs push-near-run-kinds.ps) (v w : (res_t push-near-run-kinds.r κs).Denot) (x y : AtExit (ended_of 2 push-near-run-kinds.ps push-near-run-kinds.r) κs)
    → push-near-run-reads.Post κs a v x → push-near-run-reads.Post κs a w y → x.1.0.now ≡ y.1.0.now
push_near_run_levels_once κs a v w x y p q = once p.1 q.1

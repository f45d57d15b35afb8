-- Both calls: the contract admits one answer, and one buffer.
use mathlib.Core.Path.{◌≡◌}
use contract.Lifetimes.{Lfts}
use denote.Triple.Clauses.{AtExit}
use borrow.Fn.Kinds.{Dens, res_t, ended_of}
use Rattle.answers.specs.Once.{Determined}
use Rattle.answers.proofs.Once.{once}
use Rattle.log_report.proofs.write_report.Kinds as report-kinds
use Rattle.log_report.proofs.write_report.Reads as report-reads
use Rattle.log_report.proofs.write_refusal.Kinds as refusal-kinds
use Rattle.log_report.proofs.write_refusal.Reads as refusal-reads

pub write_report_once : Determined 1 report-kinds.ps report-kinds.r report-reads.Post
write_report_once κs a v w x y p q = once p.0 q.0

pub write_report_leaves_once : (κs : Lfts 1) (a : Dens κs report-kinds.ps) (v w : (res_t report-kinds.r κs).Denot) (x y : AtExit (ended_of 1 report-kinds.ps report-kinds.r) κs)
    → report-reads.Post κs a v x → report-reads.Post κs a w y → x.1.0.now ≡ y.1.0.now
write_report_leaves_once κs a v w x y p q = once p.1 q.1

pub write_refusal_once : Determined 3 refusal-kinds.ps refusal-kinds.r refusal-reads.Post
write_refusal_once κs a v w x y p q = once p.0 q.0

pub write_refusal_leaves_once : (κs : Lfts 3) (a : Dens κs refusal-kinds.ps) (v w : (res_t refusal-kinds.r κs).Denot) (x y : AtExit (ended_of 3 refusal-kinds.ps refusal-kinds.r) κs)
    → refusal-reads.Post κs a v x → refusal-reads.Post κs a w y → x.1.1.1.0.now ≡ y.1.1.1.0.now
write_refusal_leaves_once κs a v w x y p q = once p.1 q.1

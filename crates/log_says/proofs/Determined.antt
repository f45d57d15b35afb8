-- The contract of `write_verdict` admits one answer, and one buffer.
use mathlib.Core.Path.{◌≡◌}
use contract.Lifetimes.{Lfts}
use denote.Triple.Clauses.{AtExit}
use borrow.Fn.Kinds.{Dens, res_t, ended_of}
use Rattle.answers.specs.Once.{Determined}
use Rattle.answers.proofs.Once.{once}
use Rattle.log_says.proofs.write_verdict.Kinds as verdict-kinds
use Rattle.log_says.proofs.write_verdict.Reads as verdict-reads

pub write_verdict_once : Determined 2 verdict-kinds.ps verdict-kinds.r verdict-reads.Post
write_verdict_once κs a v w x y p q = once p.0 q.0

pub write_verdict_leaves_once : (κs : Lfts 2) (a : Dens κs verdict-kinds.ps) (v w : (res_t verdict-kinds.r κs).Denot) (x y : AtExit (ended_of 2 verdict-kinds.ps verdict-kinds.r) κs)
    → verdict-reads.Post κs a v x → verdict-reads.Post κs a w y → x.1.1.1.1.0.now ≡ y.1.1.1.1.0.now
write_verdict_leaves_once κs a v w x y p q = once p.1 q.1

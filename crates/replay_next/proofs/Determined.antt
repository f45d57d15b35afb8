-- The public call: its contract admits one answer, and leaves the seven buffers of the scan in one way.
use mathlib.Core.Path.{◌≡◌, ap}
use contract.Lifetimes.{Lfts}
use denote.Triple.Clauses.{AtExit}
use borrow.Fn.Kinds.{Dens, res_t, ended_of}
use Rattle.answers.specs.Once.{Determined}
use Rattle.answers.proofs.Once.{once}
use Rattle.scan_score.specs.Observing.{lent}
use Rattle.replay_stream.specs.Stream.{Next}
use Rattle.replay_next.proofs.next.Kinds as next-kinds
use Rattle.replay_next.proofs.next.Reads as next-reads

pub next_once : Determined 10 next-kinds.ps next-kinds.r next-reads.Post
next_once κs a v w x y p q = ap (λ (n : Next). record { place = n.place; answer = n.answer; used = n.used }) (once p q)

-- all seven buffers
pub next_leaves_once : (κs : Lfts 10) (a : Dens κs next-kinds.ps) (v w : (res_t next-kinds.r κs).Denot) (x y : AtExit (ended_of 10 next-kinds.ps next-kinds.r) κs)
    → next-reads.Post κs a v x → next-reads.Post κs a w y
    → lent x.1.1.1.1.1.1.0.now x.1.1.1.1.1.1.1.0.now x.1.1.1.1.1.1.1.1.0.now x.1.1.1.1.1.1.1.1.1.0.now x.1.1.1.1.1.1.1.1.1.1.0.now x.1.1.1.1.1.1.1.1.1.1.1.0.now x.1.1.1.1.1.1.1.1.1.1.1.1.0.now
    ≡ lent y.1.1.1.1.1.1.0.now y.1.1.1.1.1.1.1.0.now y.1.1.1.1.1.1.1.1.0.now y.1.1.1.1.1.1.1.1.1.0.now y.1.1.1.1.1.1.1.1.1.1.0.now y.1.1.1.1.1.1.1.1.1.1.1.0.now y.1.1.1.1.1.1.1.1.1.1.1.1.0.now
next_leaves_once κs a v w x y p q = ap (λ (n : Next). n.buffers) (once p q)

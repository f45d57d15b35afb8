-- Every public call: its contract admits one answer, and leaves the lent buffers in one way.
use mathlib.Core.Path.{◌≡◌, ap}
use contract.Lifetimes.{Lfts}
use denote.Triple.Clauses.{AtExit}
use borrow.Fn.Kinds.{Dens, res_t, ended_of}
use Rattle.answers.specs.Once.{Determined}
use Rattle.answers.proofs.Once.{once}
use Rattle.scan_score.specs.Observing.{lent}
use Rattle.replay.specs.Beginning.{Beginning}
use Rattle.replay.proofs.opening.Kinds as opening-kinds
use Rattle.replay.proofs.opening.Reads as opening-reads
use Rattle.replay.proofs.closing.Kinds as closing-kinds
use Rattle.replay.proofs.closing.Reads as closing-reads
use Rattle.replay.proofs.start.Kinds as start-kinds
use Rattle.replay.proofs.start.Reads as start-reads

pub opening_once : Determined 0 opening-kinds.ps opening-kinds.r opening-reads.Post
opening_once κs a v w x y p q = once p q

pub closing_once : Determined 0 closing-kinds.ps closing-kinds.r closing-reads.Post
closing_once κs a v w x y p q = once p q

pub start_once : Determined 7 start-kinds.ps start-kinds.r start-reads.Post
start_once κs a v w x y p q = ap (λ (o : Beginning). o.begun) (once p q)

-- all seven buffers
pub start_leaves_once : (κs : Lfts 7) (a : Dens κs start-kinds.ps) (v w : (res_t start-kinds.r κs).Denot) (x y : AtExit (ended_of 7 start-kinds.ps start-kinds.r) κs)
    → start-reads.Post κs a v x → start-reads.Post κs a w y
    → lent x.1.0.now x.1.1.0.now x.1.1.1.0.now x.1.1.1.1.0.now x.1.1.1.1.1.0.now x.1.1.1.1.1.1.0.now x.1.1.1.1.1.1.1.0.now ≡ lent y.1.0.now y.1.1.0.now y.1.1.1.0.now y.1.1.1.1.0.now y.1.1.1.1.1.0.now y.1.1.1.1.1.1.0.now y.1.1.1.1.1.1.1.0.now
start_leaves_once κs a v w x y p q = ap (λ (o : Beginning). o.buffers) (once p q)

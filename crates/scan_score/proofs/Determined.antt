-- The contract of `observe` admits one answer with its state, and one list in each lent buffer.
use mathlib.Core.Path.{◌≡◌, ap}
use contract.Lifetimes.{Lfts}
use denote.Triple.Clauses.{AtExit}
use borrow.Fn.Kinds.{Dens, res_t, ended_of}
use Rattle.answers.specs.Once.{Determined}
use Rattle.answers.proofs.Once.{once}
use Rattle.scan.specs.Calls.{Observation}
use Rattle.scan_score.proofs.observe.Kinds as observe-kinds
use Rattle.scan_score.proofs.observe.Reads as observe-reads

pub observe_once : Determined 7 observe-kinds.ps observe-kinds.r observe-reads.Post
observe_once κs a v w x y p q = ap (λ (o : Observation). o.scored) (once p q)

-- window, prefix, squares, scores and lag sums
pub observe_leaves_once : (κs : Lfts 7) (a : Dens κs observe-kinds.ps) (v w : (res_t observe-kinds.r κs).Denot) (x y : AtExit (ended_of 7 observe-kinds.ps observe-kinds.r) κs)
    → observe-reads.Post κs a v x → observe-reads.Post κs a w y
    → (x.1.1.1.0.now ≡ y.1.1.1.0.now) ×
    (x.1.1.1.1.0.now ≡ y.1.1.1.1.0.now) ×
    (x.1.1.1.1.1.0.now ≡ y.1.1.1.1.1.0.now) ×
    (x.1.1.1.1.1.1.0.now ≡ y.1.1.1.1.1.1.0.now) ×
    (x.1.1.1.1.1.1.1.0.now ≡ y.1.1.1.1.1.1.1.0.now)
observe_leaves_once κs a v w x y p q = (
  ap (λ (o : Observation). o.buffers.window) (once p q),
  ap (λ (o : Observation). o.buffers.prefix) (once p q),
  ap (λ (o : Observation). o.buffers.squares) (once p q),
  ap (λ (o : Observation). o.buffers.scores) (once p q),
  ap (λ (o : Observation). o.buffers.lag_sums) (once p q),
)

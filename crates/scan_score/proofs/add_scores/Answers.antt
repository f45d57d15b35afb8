-- `scan_score::add_scores` meets its contract. Invariant: the first k sums have their score.
use mathlib.Core.Path.{refl}
use Rattle.folds.proofs.Rewriting.{untouched, one_more, rewritten}
use native.Mathlib.Omega.{arith}
use Rattle.scan_score.proofs.add_scores.Invariants.{added}
use Rattle.scan_score.proofs.add_scores.Goals as goal

pub loop-k-init : goal.loop-k-init
loop-k-init c = untouched _ _

pub bounds-scores-k : goal.bounds-scores-k
bounds-scores-k c = omega (arith, c.loop-k.invariant.size)

pub loop-k-preserved : goal.loop-k-preserved
loop-k-preserved c =
    let l = c.loop-k in
    let a = c.args in
    one_more (added a.scores.now) a.sums.now l.k l.sums _ l.invariant (omega arith) refl

pub returns : goal.returns
returns c = rewritten (added c.args.scores.now) c.args.sums.now c.loop-k.k c.loop-k.sums c.loop-k.invariant (omega arith)

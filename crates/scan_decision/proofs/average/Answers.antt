-- `scan_decision::average` meets its contract. Invariant: the sums so far are averages.
use mathlib.Core.Path.{refl}
use Rattle.folds.proofs.Rewriting.{untouched, one_more, rewritten}
use native.Mathlib.Omega.{arith}
use Rattle.scan_decision.proofs.average.Invariants.{averaged}
use Rattle.scan_decision.proofs.average.Goals as goal

pub loop-sum-init : goal.loop-sum-init
loop-sum-init c = untouched _ _

pub loop-sum-preserved : goal.loop-sum-preserved
loop-sum-preserved c =
    let l = c.loop-sum in
    one_more averaged c.args.sums.now l.sum-index l.sums _ l.invariant (omega arith) refl

pub returns : goal.returns
returns c = rewritten averaged c.args.sums.now c.loop-sum.sum-index c.loop-sum.sums c.loop-sum.invariant (omega arith)

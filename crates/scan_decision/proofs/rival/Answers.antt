-- `scan_decision::rival` meets its contract. Invariant: the best of the first n averages.
use mathlib.Core.Path.{◌≡◌, refl, ◌∙◌}
use lib.Ieee.{of_bits}
use Rattle.scan.specs.Bins.{lags}
use Rattle.scan.specs.Scoring.{rival_upto}
use Rattle.scan_decision.proofs.Rivals.{rival_more}
use native.Mathlib.Omega.{arith}
use Rattle.scan_decision.proofs.rival.Goals as goal

pub loop-n-init : goal.loop-n-init
unfolding rival_upto of_bits
loop-n-init c = refl

pub loop-n-preserved : goal.loop-n-preserved
loop-n-preserved c =
    let l = c.loop-n in
    let a = c.args in
    c.rival_with-best.ensures ∙ rival_more a.g a.averages.now a.k l.n l.best l.invariant

pub returns : goal.returns
returns c = let e : c.loop-n.n ≡ lags c.args.g = omega (arith, c.requires) in rw e at c.loop-n.invariant

-- `scan_lags::centre` meets its contract. Invariant: the first i values stand.
use Rattle.std.proofs.Common.{◌≡◌, length, arith, length-set, rules}
use Rattle.folds.specs.Sums.{table}
use Rattle.folds.proofs.Laws.{grow, front}
use Rattle.scan.specs.Scoring.{centred}
use Rattle.scan_lags.proofs.centre.Goals as goal

pub loop-i-init : goal.loop-i-init
unfolding table
loop-i-init c = search rules

pub loop-i-preserved : goal.loop-i-preserved
loop-i-preserved c =
    let l = c.loop-i in
    let x = c.args.levels.now in
    (simp length-set l.invariant.0, l.invariant.1, grow (centred x) l.out l.i _ (omega arith) l.invariant.2 (cc))

pub returns : goal.returns
returns c =
    let l = c.loop-i in
    let x = c.args.levels.now in
    let e : l.i ≡ length x = omega arith in
    front (centred x) l.out (length x) (rw e at l.invariant.2)

-- `scan_lags::widen` meets its contract. Invariant: the first i values stand.
use Rattle.std.proofs.Common.{◌≡◌, length, refl, arith, length-set}
use Rattle.folds.specs.Sums.{table, at}
use Rattle.folds.proofs.Laws.{grow, front}
use Rattle.scan_lags.proofs.widen.Goals as goal

pub loop-i-init : goal.loop-i-init
unfolding table
loop-i-init c = (refl, refl)

pub loop-i-preserved : goal.loop-i-preserved
loop-i-preserved c =
    let l = c.loop-i in
    let x = c.args.xs.now in
    (simp length-set l.invariant.0, grow (at x) l.out l.i _ (omega arith) l.invariant.1 (cc))

pub returns : goal.returns
returns c =
    let l = c.loop-i in
    let x = c.args.xs.now in
    let e : l.i ≡ length x = omega arith in
    front (at x) l.out (length x) (rw e at l.invariant.1)

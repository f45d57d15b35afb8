-- `scan_runs::total` meets its contract. Invariant: the total goes on over the samples that are left.
use Rattle.std.proofs.Common.{refl, arith}
use Rattle.scan_runs.specs.Ready.{total_of}
use Rattle.scan_runs.proofs.Stretching.{total_more, total_done}
use Rattle.scan_runs.proofs.total.Goals as goal

pub loop-sample-init : goal.loop-sample-init
loop-sample-init c = refl

pub loop-sample-preserved : goal.loop-sample-preserved
loop-sample-preserved c =
    let a = c.args in
    let l = c.loop-sample in
    let e = total_more a.samples.now l.sample-index l.total (total_of a.sum a.samples.now) (omega arith) l.invariant in
    rw (c.magnitude-total.ensures, c.from.ensures) e

pub returns : goal.returns
returns c =
    let a = c.args in
    let l = c.loop-sample in
    total_done a.samples.now l.sample-index l.total (total_of a.sum a.samples.now) (omega arith) l.invariant

-- `scan_push::sums::two` meets its contract: side by side, and then each by itself.
use Prim.Native.Nat.{◌+◌, ◌-◌}
use mathlib.Core.Path.{ap, ◌∙◌}
use native.Mathlib.Omega.{arith}
use lib.ListN.{length}
use Rattle.floats.specs.Functions.{zero64}
use Rattle.scan_push.specs.declared.sums.TwoSums.{TwoSums}
use Rattle.scan_push.proofs.Groups.{onward_through}
use Rattle.scan_push.proofs.sums.two.Goals as goal

pub returns : goal.returns
returns c =
    let a = c.args in
    let xs = a.samples.now in
    let n = c.min-n.result in
    let h = c.min-n.ensures in
    let e = c.abreast-begun.ensures in
    let p = c.run.ensures ∙ onward_through a.start _ xs 0 a.m n n (a.m - n) (ap (λ (t : TwoSums). t.first) e) (omega arith) (omega (arith, h)) in
    let q = c.run-2.ensures ∙ onward_through zero64 _ xs a.m (length xs - a.m) (a.m + n) n (length xs - a.m - n) (ap (λ (t : TwoSums). t.second) e) (omega arith) (omega (arith, h)) in
    rw (p, q)

-- `scan_push::far::hear_run` meets its contract.
use native.Mathlib.Omega.{arith}
use Rattle.scan_push.proofs.far.hear_run.Goals as goal

pub hear_two-requires : goal.hear_two-requires
hear_two-requires c =
    let p = c.requires in
    record { all = p.all; one = omega (arith, c.if-f-samples.false); two = omega (arith, c.if-f-samples-2.true) }

pub hear_four-requires : goal.hear_four-requires
hear_four-requires c =
    let p = c.requires in
    let k = p.shaped (omega (arith, c.if-f-samples-2.false)) in
    record { all = p.all; start = k.0; four = k.1 }

-- `scan_handover::fill::run` meets its contract: samples of one block, or four whole ones.
use native.Mathlib.Omega.{arith}
use Rattle.scan_handover.proofs.fill.run.Goals as goal

pub block-requires : goal.block-requires
block-requires c = let p = c.requires in record { all = p.all; some = p.some; part = c.if-n-samples.true }

pub returns-then-n-samples : goal.returns-then-n-samples
returns-then-n-samples c = record { near = c.block.ensures.near; levels = c.block.ensures.levels }

pub four-requires : goal.four-requires
four-requires c =
    let p = c.requires in
    let four = p.shaped (omega (arith, c.if-n-samples.false)) in
    record { all = p.all; start = four.0; four = four.1 }

pub returns : goal.returns
returns c = record { near = c.four.ensures.near; levels = c.four.ensures.levels }

-- `scan_handover::fill::block` meets its contract: the samples complete the block, or go on with it.
use Prim.Native.Nat.{◌<◌}
use native.Mathlib.Omega.{arith}
use lib.Ieee.{of_bits}
use Rattle.scan_handover.proofs.Gathers.{next_bin, goes, ends_block}
use Rattle.scan_handover.proofs.fill.block.Goals as goal
use Rattle.scan_handover.proofs.fill.block.Goals.{Start}

-- the frame has a bin for the block
bin : (s : Start) → s.args.n.len < s.args.g.frame
bin s = next_bin s.args.g s.args.n s.args.levels.now s.args.samples.now s.args.index s.requires.all s.requires.some

pub returns-then-count-g : goal.returns-then-count-g
returns-then-count-g c =
    let a = c.args in
    let k = goes a.g a.samples.now a.n a.levels.now a.index c.requires.some (omega (arith, c.requires.part, c.if-count-g.true)) in
    record {
      near = rw (k, c.run-sum.ensures, c.first_bin-first.ensures);
      levels = rw k;
    }

pub store-requires : goal.store-requires
store-requires c =
    (c.requires.all.bounds.decimation, omega (arith, bin c.before.before.before.before.before.before.before.before.before, c.requires.all.fit))

pub overflow_add-result : goal.overflow_add-result
overflow_add-result c = omega (arith, bin c.before.before.before.before.before.before.before.before.before.before.before.before, c.requires.all.bounds.frame)

pub returns : goal.returns
unfolding of_bits
returns c =
    let a = c.args in
    let k = ends_block a.g a.samples.now a.n a.levels.now a.index c.requires.some c.if-count-g.false in
    record {
      near = rw (k, c.first_bin-first.ensures);
      levels = rw (k, c.store.ensures, c.run-sum.ensures);
    }

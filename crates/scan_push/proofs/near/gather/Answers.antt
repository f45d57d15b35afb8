-- `scan_push::near::gather` meets its contract: the sample completes the block, or goes on with it.
use lib.Ieee.{of_bits}
use Rattle.scan_push.proofs.Pushing.{closes_bin, goes_on_bin}
use Rattle.scan_push.proofs.near.gather.Goals as goal

pub returns-then-count-g : goal.returns-then-count-g
returns-then-count-g c =
    let a = c.args in
    let k = goes_on_bin a.g a.n a.levels.now a.sample a.index c.if-count-g.true in
    record {
      near = rw (k, c.summed-sum.ensures, c.first_bin-first.ensures);
      levels = rw k;
    }

pub returns : goal.returns
unfolding of_bits
returns c =
    let a = c.args in
    let k = closes_bin a.g a.n a.levels.now a.sample a.index c.if-count-g.false in
    record {
      near = rw (k, c.first_bin-first.ensures);
      levels = rw (k, c.level_of.ensures, c.summed-sum.ensures);
    }

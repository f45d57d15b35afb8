-- `scan_pair_calls::push_far` meets its contract.
use Rattle.scan_pair.specs.Calls.{pair_far}
use Rattle.scan_pair_calls.proofs.push_far.Goals as goal

pub returns : goal.returns
unfolding pair_far
returns c =
    record {
      changed = cc (c.with_far.ensures, c.push_far-pushed.ensures.changed, c.common.ensures);
      envelope = cc (c.push_far-pushed.ensures.envelope, c.common.ensures);
    }

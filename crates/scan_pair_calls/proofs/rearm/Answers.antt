-- `scan_pair_calls::rearm` meets its contract.
use mathlib.Core.Path.{ap, ◌∙◌}
use Rattle.scan_pair.specs.Calls.{PairClearing}
use Rattle.scan_pair_calls.proofs.Calls.{not_rearmed, is_rearmed}
use Rattle.scan_pair_calls.proofs.rearm.Goals as goal

pub returns-then-channel-ge2 : goal.returns-then-channel-ge2
returns-then-channel-ge2 c = let e = not_rearmed c.args.pair c.args.channel c.args.lag_sums.now c.if-channel-ge2.true in record { changed = ap (λ (z : PairClearing). z.changed) e; sums = ap (λ (z : PairClearing). z.lag_sums) e }

pub returns : goal.returns
returns c = let e = is_rearmed c.args.pair c.args.channel c.args.lag_sums.now c.if-channel-ge2.false in
    record {
      changed = cc (c.left_in.ensures, c.rearm-rearmed.ensures.changed, c.scan_of.ensures) ∙ ap (λ (z : PairClearing). z.changed) e;
      sums = cc (c.rearm-rearmed.ensures.sums, c.scan_of.ensures) ∙ ap (λ (z : PairClearing). z.lag_sums) e;
    }

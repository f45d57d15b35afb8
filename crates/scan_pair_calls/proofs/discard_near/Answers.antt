-- `scan_pair_calls::discard_near` meets its contract.
use mathlib.Core.Path.{ap, ◌∙◌}
use Rattle.scan_pair.specs.Calls.{PairClearing}
use Rattle.scan_pair_calls.proofs.Calls.{not_discarded, is_discarded}
use Rattle.scan_pair_calls.proofs.discard_near.Goals as goal

pub returns-then-channel-ge2 : goal.returns-then-channel-ge2
returns-then-channel-ge2 c = let e = not_discarded c.args.pair c.args.channel c.args.lag_sums.now c.if-channel-ge2.true in record { changed = ap (λ (z : PairClearing). z.changed) e; sums = ap (λ (z : PairClearing). z.lag_sums) e }

pub returns : goal.returns
returns c = let e = is_discarded c.args.pair c.args.channel c.args.lag_sums.now c.if-channel-ge2.false in
    record {
      changed = cc (c.left_in.ensures, c.discard_near-discarded.ensures.changed, c.scan_of.ensures) ∙ ap (λ (z : PairClearing). z.changed) e;
      sums = cc (c.discard_near-discarded.ensures.sums, c.scan_of.ensures) ∙ ap (λ (z : PairClearing). z.lag_sums) e;
    }

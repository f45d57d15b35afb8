-- `scan_pair_calls::push_near` meets its contract.
use mathlib.Core.Path.{ap, ◌∙◌}
use Rattle.scan_pair.specs.Calls.{PairNearPush}
use Rattle.scan_pair_calls.proofs.Calls.{not_near, is_near}
use Rattle.scan_pair_calls.proofs.push_near.Goals as goal

pub returns-then-channel-ge2 : goal.returns-then-channel-ge2
returns-then-channel-ge2 c = let e = not_near c.args.pair c.args.channel c.args.levels.now c.args.sample c.args.index c.if-channel-ge2.true in record { took = ap (λ (z : PairNearPush). z.took) e; levels = ap (λ (z : PairNearPush). z.levels) e }

pub returns : goal.returns
returns c = let e = is_near c.args.pair c.args.channel c.args.levels.now c.args.sample c.args.index c.if-channel-ge2.false in
    record {
      took = cc (c.left_in.ensures, c.push_near-took.ensures.took, c.scan_of.ensures) ∙ ap (λ (z : PairNearPush). z.took) e;
      levels = cc (c.push_near-took.ensures.levels, c.scan_of.ensures) ∙ ap (λ (z : PairNearPush). z.levels) e;
    }

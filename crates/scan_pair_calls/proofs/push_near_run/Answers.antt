-- `scan_pair_calls::push_near_run` meets its contract.
use mathlib.Core.Path.{ap, ◌∙◌}
use Rattle.scan_pair_calls.specs.Runs.{PairRun}
use Rattle.scan_pair_calls.proofs.Calls.{not_run, is_run}
use Rattle.scan_pair_calls.proofs.push_near_run.Goals as goal

pub returns-then-channel-ge2 : goal.returns-then-channel-ge2
returns-then-channel-ge2 c = let e = not_run c.args.pair c.args.channel c.args.levels.now c.args.samples.now c.args.first c.if-channel-ge2.true in record { handed = ap (λ (z : PairRun). z.handed) e; levels = ap (λ (z : PairRun). z.levels) e }

pub returns : goal.returns
returns c = let e = is_run c.args.pair c.args.channel c.args.levels.now c.args.samples.now c.args.first c.if-channel-ge2.false in
    record {
      handed = cc (c.left_in.ensures, c.push_near_run-handed.ensures.handed, c.scan_of.ensures) ∙ ap (λ (z : PairRun). z.handed) e;
      levels = cc (c.push_near_run-handed.ensures.levels, c.scan_of.ensures) ∙ ap (λ (z : PairRun). z.levels) e;
    }

-- `scan_pair_calls::observe` meets its contract.
use mathlib.Core.Path.{ap, ◌∙◌}
use Rattle.scan.specs.Bins.{full_slack}
use Rattle.scan.specs.Calls.{observed}
use Rattle.scan.specs.declared.Scan.{Scan}
use Rattle.scan_score.specs.Observing.{lent, world}
use Rattle.scan_pair_calls.proofs.Calls.{not_scored, scored_by}
use Rattle.scan_pair_calls.proofs.observe.Goals as goal

pub returns-then-channel-ge2 : goal.returns-then-channel-ge2
returns-then-channel-ge2 c = not_scored c.args.pair c.args.channel full_slack (lent c.args.envelope.now c.args.levels.now c.args.window.now c.args.prefix.now c.args.squares.now c.args.scores.now c.args.lag_sums.now) c.if-channel-ge2.true

pub returns : goal.returns
returns c = scored_by c.args.pair c.args.channel full_slack (lent c.args.envelope.now c.args.levels.now c.args.window.now c.args.prefix.now c.args.squares.now c.args.scores.now c.args.lag_sums.now) c.if-channel-ge2.false (c.observe-scored.ensures ∙ ap (λ (s : Scan). observed full_slack (world s (lent c.args.envelope.now c.args.levels.now c.args.window.now c.args.prefix.now c.args.squares.now c.args.scores.now c.args.lag_sums.now))) c.scan_of.ensures) c.left_in.ensures

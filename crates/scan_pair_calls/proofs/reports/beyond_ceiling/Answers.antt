-- `scan_pair_calls::reports::beyond_ceiling` meets its contract.
use mathlib.Core.Path.{ap, ◌∙◌}
use Rattle.scan.specs.Calls.{beyond_ceiling}
use Rattle.scan_pair.specs.Calls.{pair_beyond_ceiling}
use Rattle.scan_pair_calls.proofs.Calls.{on_none, on_side}
use Rattle.scan_pair_calls.proofs.reports.beyond_ceiling.Goals as goal

pub returns-then-channel-ge2 : goal.returns-then-channel-ge2
unfolding pair_beyond_ceiling
returns-then-channel-ge2 c = on_none c.args.channel _ _ c.if-channel-ge2.true

pub returns : goal.returns
unfolding pair_beyond_ceiling
returns c = c.beyond_ceiling.ensures ∙ ap beyond_ceiling c.scan_of.ensures ∙ on_side c.args.channel _ _ c.if-channel-ge2.false

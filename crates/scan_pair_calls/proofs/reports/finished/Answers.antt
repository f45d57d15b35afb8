-- `scan_pair_calls::reports::finished` meets its contract.
use mathlib.Core.Path.{ap, ◌∙◌}
use Rattle.scan.specs.Calls.{is_finished}
use Rattle.scan_pair.specs.Calls.{pair_finished}
use Rattle.scan_pair_calls.proofs.Calls.{on_none, on_side}
use Rattle.scan_pair_calls.proofs.reports.finished.Goals as goal

pub returns-then-channel-ge2 : goal.returns-then-channel-ge2
unfolding pair_finished
returns-then-channel-ge2 c = on_none c.args.channel _ _ c.if-channel-ge2.true

pub returns : goal.returns
unfolding pair_finished
returns c = c.finished.ensures ∙ ap is_finished c.scan_of.ensures ∙ on_side c.args.channel _ _ c.if-channel-ge2.false

-- `scan_pair_calls::reports::correlation` meets its contract.
use mathlib.Core.Path.{ap, ◌∙◌}
use Rattle.scan.specs.Calls.{correlation_of}
use Rattle.scan_pair.specs.Calls.{pair_correlation}
use Rattle.scan_pair_calls.proofs.Calls.{on_none, on_side}
use Rattle.scan_pair_calls.proofs.reports.correlation.Goals as goal

pub returns-then-channel-ge2 : goal.returns-then-channel-ge2
unfolding pair_correlation
returns-then-channel-ge2 c = on_none c.args.channel _ _ c.if-channel-ge2.true

pub returns : goal.returns
unfolding pair_correlation
returns c = c.correlation.ensures ∙ ap correlation_of c.scan_of.ensures ∙ on_side c.args.channel _ _ c.if-channel-ge2.false

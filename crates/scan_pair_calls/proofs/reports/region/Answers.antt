-- `scan_pair_calls::reports::region` meets its contract.
use mathlib.Core.Path.{ap, ◌∙◌}
use Rattle.scan.specs.Calls.{region_of}
use Rattle.scan_pair.specs.Calls.{pair_region}
use Rattle.scan_pair_calls.proofs.Calls.{on_none, on_side}
use Rattle.scan_pair_calls.proofs.reports.region.Goals as goal

pub returns-then-channel-ge2 : goal.returns-then-channel-ge2
unfolding pair_region
returns-then-channel-ge2 c = on_none c.args.channel _ _ c.if-channel-ge2.true

pub returns : goal.returns
unfolding pair_region
returns c = c.region.ensures ∙ ap region_of c.scan_of.ensures ∙ on_side c.args.channel _ _ c.if-channel-ge2.false

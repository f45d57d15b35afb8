-- `scan_pair_calls::reports::exhausted` meets its contract.
use mathlib.Core.Path.{ap, ◌∙◌}
use Rattle.scan.specs.Calls.{is_exhausted}
use Rattle.scan_pair.specs.Calls.{pair_exhausted}
use Rattle.scan_pair_calls.proofs.Calls.{on_none, on_side}
use Rattle.scan_pair_calls.proofs.reports.exhausted.Goals as goal

pub returns-then-channel-ge2 : goal.returns-then-channel-ge2
unfolding pair_exhausted
returns-then-channel-ge2 c = on_none c.args.channel _ _ c.if-channel-ge2.true

pub returns : goal.returns
unfolding pair_exhausted
returns c = c.exhausted.ensures ∙ ap is_exhausted c.scan_of.ensures ∙ on_side c.args.channel _ _ c.if-channel-ge2.false

-- `scan_pair_calls::reports::ceiling_samples` meets its contract.
use mathlib.Core.Path.{ap, ◌∙◌}
use Rattle.scan.specs.Calls.{ceiling_samples}
use Rattle.scan_pair.specs.Calls.{pair_ceiling_samples}
use Rattle.scan_pair_calls.proofs.reports.ceiling_samples.Goals as goal

pub returns : goal.returns
unfolding pair_ceiling_samples
returns c = c.ceiling_samples.ensures ∙ ap ceiling_samples c.common.ensures

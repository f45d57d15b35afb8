-- `scan_pair_calls::reports::bin_samples` meets its contract.
use mathlib.Core.Path.{ap, ◌∙◌}
use Rattle.scan.specs.Calls.{bin_samples}
use Rattle.scan_pair.specs.Calls.{pair_bin_samples}
use Rattle.scan_pair_calls.proofs.reports.bin_samples.Goals as goal

pub returns : goal.returns
unfolding pair_bin_samples
returns c = c.bin_samples.ensures ∙ ap bin_samples c.common.ensures

-- `scan_calls::reports::bin_samples` meets its contract.
use Rattle.answers.proofs.Cases.{cases}
use Rattle.scan.specs.Calls.{bin_samples}
use Rattle.scan_calls.proofs.reports.bin_samples.Goals as goal

pub returns-then-n-ne0 : goal.returns-then-n-ne0
unfolding bin_samples
returns-then-n-ne0 c = search (cases, ← c.refusal-n.ensures)

pub returns : goal.returns
unfolding bin_samples
returns c = search (cases, ← c.refusal-n.ensures, ← c.in_samples.ensures)

-- `scan_panel_calls::reports::ceiling_samples` meets its contract.
use mathlib.Core.Path.{◌∙◌}
use Rattle.scan_panel.specs.Panel.{panel_ceiling_samples}
use Rattle.scan_panel_calls.proofs.Calls.{turned_down, goes_on}
use Rattle.scan_panel_calls.proofs.reports.ceiling_samples.Goals as goal

pub returns-then-not-allows : goal.returns-then-not-allows
unfolding panel_ceiling_samples
returns-then-not-allows c = turned_down _ _ c.allows.ensures c.if-not-allows.true-raw

pub returns : goal.returns
unfolding panel_ceiling_samples
returns c = c.ceiling_samples.ensures ∙ goes_on _ _ c.allows.ensures c.if-not-allows.false-raw

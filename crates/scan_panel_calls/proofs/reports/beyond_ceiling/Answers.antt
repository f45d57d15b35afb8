-- `scan_panel_calls::reports::beyond_ceiling` meets its contract.
use mathlib.Core.Path.{◌∙◌}
use Rattle.scan_panel.specs.Panel.{panel_beyond_ceiling}
use Rattle.scan_panel_calls.proofs.Calls.{turned_down, goes_on}
use Rattle.scan_panel_calls.proofs.reports.beyond_ceiling.Goals as goal

pub returns-then-not-allows : goal.returns-then-not-allows
unfolding panel_beyond_ceiling
returns-then-not-allows c = turned_down _ _ c.allows.ensures c.if-not-allows.true-raw

pub returns : goal.returns
unfolding panel_beyond_ceiling
returns c = c.beyond_ceiling.ensures ∙ goes_on _ _ c.allows.ensures c.if-not-allows.false-raw

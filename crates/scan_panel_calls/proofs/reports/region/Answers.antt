-- `scan_panel_calls::reports::region` meets its contract.
use mathlib.Core.Path.{◌∙◌}
use Rattle.scan_panel.specs.Panel.{panel_region_of}
use Rattle.scan_panel_calls.proofs.Calls.{turned_down, goes_on}
use Rattle.scan_panel_calls.proofs.reports.region.Goals as goal

pub returns-then-not-allows : goal.returns-then-not-allows
unfolding panel_region_of
returns-then-not-allows c = turned_down _ _ c.allows.ensures c.if-not-allows.true-raw

pub returns : goal.returns
unfolding panel_region_of
returns c = c.region.ensures ∙ goes_on _ _ c.allows.ensures c.if-not-allows.false-raw

-- `scan_panel_calls::made::refused` meets its contract.
use Rattle.scan_panel_calls.proofs.made.refused.Goals as goal

pub returns : goal.returns
returns c = cc

-- `scan_panel_calls::made::returned` meets its contract.
use Rattle.scan_panel_calls.specs.Made.{panel_returned}
use Rattle.scan_panel_calls.proofs.Calls.{returned_done}
use Rattle.scan_panel_calls.proofs.made.returned.Goals as goal

pub returns-in-Refused : goal.returns-in-Refused
unfolding panel_returned
returns-in-Refused c = rw c.in-Refused.is c.refused.ensures

pub returns-in-Done : goal.returns-in-Done
returns-in-Done c = returned_done c.args.made c.in-Done.is

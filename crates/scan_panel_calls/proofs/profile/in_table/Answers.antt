-- `scan_panel_calls::profile::in_table` meets its contract.
use Rattle.std.proofs.Common.{arith}
use Rattle.answers.specs.Pick.{pick}
use Rattle.answers.proofs.Cases.{cases}
use Rattle.scan_panel.specs.Panel.{panel_table}
use Rattle.scan_panel_calls.proofs.profile.in_table.Goals as goal

pub returns-then-rate-eq16000 : goal.returns-then-rate-eq16000
unfolding panel_table pick
returns-then-rate-eq16000 c = grind (arith, cases)

pub returns-else-rate-eq16000 : goal.returns-else-rate-eq16000
unfolding panel_table pick
returns-else-rate-eq16000 c = grind (arith, cases)

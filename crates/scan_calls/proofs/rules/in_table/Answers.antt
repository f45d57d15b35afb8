-- `scan_calls::rules::in_table` meets its contract: rate first, then ceiling.
use Rattle.answers.proofs.Cases.{cases}
use Rattle.scan.specs.Bins.{in_table}
use Rattle.scan_calls.proofs.rules.in_table.Goals as goal

pub returns-then-allowed_rate : goal.returns-then-allowed_rate
unfolding in_table
returns-then-allowed_rate c = search (cases, ← c.allowed_rate.ensures, ← c.allowed_ceiling.ensures)

pub returns-else-allowed_rate : goal.returns-else-allowed_rate
unfolding in_table
returns-else-allowed_rate c = search (cases, ← c.allowed_rate.ensures)
